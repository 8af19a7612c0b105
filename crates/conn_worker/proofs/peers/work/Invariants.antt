use Rattle.std.proofs.Common.{◌≡◌, ◌≤◌, false}
use Rattle.turn_lock.specs.Lock.{share_of}
use Rattle.hall.specs.Passes.{IsPassOfHall}
use Rattle.conn_worker.specs.Entries.{IsPassOfShelf, shares_of}
use Rattle.conn_worker.specs.Desk.{passes}
use Rattle.conn_worker.specs.Worked.{sight, Worked}
use Rattle.conn_worker.proofs.peers.work.Given as goal

-- peers were served, and all came back
abbrev pub invariant-loop : goal.invariant-loop
invariant-loop g l =
    let door = g.D.Door in
    let source = g.D.In.Source in
    let sink = g.D.Out.Sink in
    (goal.iterator-loop g).can_next l.iterator' × (goal.iterator-loop g).is_finite l.iterator' × record {
      home : door.is_out l.door ≡ false;
      desk : IsPassOfHall l.fn.desk l.desk_pass;
      rules : IsPassOfShelf l.fn.rules l.rules_pass;
      desk_shares : shares_of l.desk_pass ≡ shares_of l.fn.desk_pass;
      rules_share : share_of l.rules_pass ≡ share_of l.fn.rules_pass;
      worked : Worked (sight source.left source.ends source.faults sink.held sink.faults) (g.C.Clock.told l.fn.clock) l.fn.size (passes l.fn.desk_pass l.fn.rules_pass)
          (passes l.desk_pass l.rules_pass) (door.left l.fn.door) (door.left l.door) (door.served l.fn.door) (door.served l.door);
      later : door.faults l.fn.door ≤ door.faults l.door;
      closings : door.closings l.door ≡ door.closings l.fn.door;
    }
