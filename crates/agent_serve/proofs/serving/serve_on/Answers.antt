use Rattle.std.proofs.Common.{◌≡◌, List, ◌∙◌, inl, subst, sym, arith}
use denote.Param.Send.{sendable}
use Rattle.std.specs.List.{All}
use Rattle.waf_io.specs.Doors.{HasEnded, KeepsAll, after_faults}
use Rattle.crew.specs.Served.{Each}
use Rattle.conn_worker.specs.Worked.{sight}
use Rattle.agent_serve.specs.Crew.{door_sight}
use Rattle.agent_serve.proofs.Ending.{DidAt, all_ended, any_failed, back_is, count_is, failed_by, members_are, rose_by}
use Rattle.agent_serve.proofs.RulesCross.{crossing, station_sync}
use Rattle.agent_serve.proofs.serving.serve_on.Goals as goal

pub side_by_side-end-requires-send-M : goal.side_by_side-end-requires-send-M
side_by_side-end-requires-send-M g c κs within = search crossing depth 120 fits 20000

pub side_by_side-end-requires-sync-T : goal.side_by_side-end-requires-sync-T
side_by_side-end-requires-sync-T g c κs within = search (sendable, station_sync) depth 20

pub take_back-requires-clause-ended : goal.take_back-requires-clause-ended
take_back-requires-clause-ended g c =
    let seen = door_sight g.D.D.Door.left g.D.D.Door.served g.D.D.Door.is_out g.D.D.Door.faults g.D.D.Door.closings (sight g.D.D.In.Source.left g.D.D.In.Source.ends g.D.D.In.Source.faults g.D.D.Out.Sink.held g.D.D.Out.Sink.faults) in
    let each = subst (λ (ds : List g.row.D-D.Denot). Each (DidAt c.args.desk.now c.args.rules.now (g.C.Clock.told c.args.clock.now) c.args.size seen) 0 ds c.side_by_side-end.new.opened c.args.crew.now c.side_by_side-end.new.crew) c.as_mut_slice.ensures.items c.side_by_side-end.ensures.each in
    let now = c.side_by_side-end.new.opened in
    let same = back_is c.in-Doors.opened now (count_is c.args.desk.now c.args.rules.now (g.C.Clock.told c.args.clock.now) c.args.size seen 0 c.in-Doors.opened now c.args.crew.now c.side_by_side-end.new.crew each) in
    subst (All (HasEnded g.D.D.Door.faults g.D.D.Door.closings)) (sym same)
    (all_ended c.args.desk.now c.args.rules.now (g.C.Clock.told c.args.clock.now) c.args.size seen 0 c.in-Doors.opened now c.args.crew.now c.side_by_side-end.new.crew each)

pub returns-in-Doors-clause-members : goal.returns-in-Doors-clause-members
returns-in-Doors-clause-members g c =
    let seen = door_sight g.D.D.Door.left g.D.D.Door.served g.D.D.Door.is_out g.D.D.Door.faults g.D.D.Door.closings (sight g.D.D.In.Source.left g.D.D.In.Source.ends g.D.D.In.Source.faults g.D.D.Out.Sink.held g.D.D.Out.Sink.faults) in
    let each = subst (λ (ds : List g.row.D-D.Denot). Each (DidAt c.args.desk.now c.args.rules.now (g.C.Clock.told c.args.clock.now) c.args.size seen) 0 ds c.side_by_side-end.new.opened c.args.crew.now c.side_by_side-end.new.crew) c.as_mut_slice.ensures.items c.side_by_side-end.ensures.each in
    members_are c.args.desk.now c.args.rules.now (g.C.Clock.told c.args.clock.now) c.args.size seen 0 c.in-Doors.opened c.side_by_side-end.new.opened c.args.crew.now c.side_by_side-end.new.crew each

pub returns-in-Doors-clause-served : goal.returns-in-Doors-clause-served
returns-in-Doors-clause-served g c =
    let seen = door_sight g.D.D.Door.left g.D.D.Door.served g.D.D.Door.is_out g.D.D.Door.faults g.D.D.Door.closings (sight g.D.D.In.Source.left g.D.D.In.Source.ends g.D.D.In.Source.faults g.D.D.Out.Sink.held g.D.D.Out.Sink.faults) in
    let each = subst (λ (ds : List g.row.D-D.Denot). Each (DidAt c.args.desk.now c.args.rules.now (g.C.Clock.told c.args.clock.now) c.args.size seen) 0 ds c.side_by_side-end.new.opened c.args.crew.now c.side_by_side-end.new.crew) c.as_mut_slice.ensures.items c.side_by_side-end.ensures.each in
    let now = c.side_by_side-end.new.opened in
    let same = back_is c.in-Doors.opened now (count_is c.args.desk.now c.args.rules.now (g.C.Clock.told c.args.clock.now) c.args.size seen 0 c.in-Doors.opened now c.args.crew.now c.side_by_side-end.new.crew each) in
    inl (record {
      doors = c.in-Doors.opened;
      count = c.in-Doors.ensures.opened.0;
      unused = c.in-Doors.ensures.opened.1;
      back = now;
      each = each;
      how = c.side_by_side-end.result;
      controlled = c.side_by_side-end.ensures.ordered.controlled;
      kept = subst (λ had. KeepsAll had now (g.D.Doors.returned c.take_back.new.self)) (c.side_by_side-end.ensures.returned ∙ c.open_doors.ensures.returned)
          (subst (λ (came : List g.row.D-D.Denot). KeepsAll (g.D.Doors.returned c.side_by_side-end.new.doors) came (g.D.Doors.returned c.take_back.new.self)) same c.take_back.ensures.returned);
      status = c.status_of.ensures;
    })

pub returns-in-Doors-clause-door_fault : goal.returns-in-Doors-clause-door_fault
returns-in-Doors-clause-door_fault g c = λ is.
    let seen = door_sight g.D.D.Door.left g.D.D.Door.served g.D.D.Door.is_out g.D.D.Door.faults g.D.D.Door.closings (sight g.D.D.In.Source.left g.D.D.In.Source.ends g.D.D.In.Source.faults g.D.D.Out.Sink.held g.D.D.Out.Sink.faults) in
    let each = subst (λ (ds : List g.row.D-D.Denot). Each (DidAt c.args.desk.now c.args.rules.now (g.C.Clock.told c.args.clock.now) c.args.size seen) 0 ds c.side_by_side-end.new.opened c.args.crew.now c.side_by_side-end.new.crew) c.as_mut_slice.ensures.items c.side_by_side-end.ensures.each in
    let now = c.side_by_side-end.new.opened in
    let same = back_is c.in-Doors.opened now (count_is c.args.desk.now c.args.rules.now (g.C.Clock.told c.args.clock.now) c.args.size seen 0 c.in-Doors.opened now c.args.crew.now c.side_by_side-end.new.crew each) in
    let some = any_failed c.args.desk.now c.args.rules.now (g.C.Clock.told c.args.clock.now) c.args.size seen 0 c.in-Doors.opened now c.args.crew.now c.side_by_side-end.new.crew each (failed_by c.side_by_side-end.result c.side_by_side-end.new.crew (sym c.status_of.ensures ∙ is)) in
    let first = c.open_doors.ensures.later in let then = c.side_by_side-end.ensures.later in
    rose_by g.D.D.Door.faults now (g.D.Doors.faults c.args.doors.now) (g.D.Doors.faults c.side_by_side-end.new.doors) (g.D.Doors.faults c.take_back.new.self) some (omega (arith, first, then))
    (subst (λ (came : List g.row.D-D.Denot). g.D.Doors.faults c.take_back.new.self ≡ after_faults g.D.D.Door.faults came (g.D.Doors.faults c.side_by_side-end.new.doors)) same c.take_back.ensures.faults)
