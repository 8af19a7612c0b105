use Rattle.std.proofs.Common.{refl}
use Rattle.conn_core.specs.declared.need.Need.TheVariants as needs
use Rattle.conn_core.specs.Trace.{Finish}
use Rattle.conn_loop.specs.Answered.{ended_replies}
use Rattle.conn_loop.proofs.Meeting.{finish_stands, free_held, meets_finish, no_ticket_ended, quiet_free, still_free}
use Rattle.conn_loop.proofs.needs.finish.Goals as goal

pub returns-clause-meets : goal.returns-clause-meets
returns-clause-meets g c = λ s h.
    let t = c.take_finish-half in
    meets_finish g.H.Host.serves _ _ _ _ s _ _ c.finish-answer.result c.requires.asks.kind c.requires.at.1 c.finish-answer.ensures.serves c.give_ended.ensures.broken
    (finish_stands c.give_ended.new.self s t.result.0 t.result.1 c.finish-answer.result (c.give_ended.ensures.next _ (t.ensures.done s h)))

pub returns-clause-held : goal.returns-clause-held
returns-clause-held g c =
    let asks = c.requires.asks in
    let t = c.take_finish-half in
    let d = c.give_ended.new.self in
    let answer = c.finish-answer.result in
    let stands = finish_stands d asks.state t.result.0 t.result.1 answer (c.give_ended.ensures.next _ (t.ensures.done asks.state asks.stands)) in
    free_held g.H.Host.holds (g.H.Host.desk c.finish-answer.new.self) d
    (still_free c.args.conn.now d asks.state (Finish t.result.0 t.result.1) (ended_replies answer) asks.stands stands (quiet_free c.args.conn.now needs.Finish asks.kind refl asks.hold) (no_ticket_ended _ _ _ answer) refl)
