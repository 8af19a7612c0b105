use Rattle.std.proofs.Common.{[], refl}
use Rattle.conn_core.specs.declared.need.Need.TheVariants as needs
use Rattle.conn_core.specs.Trace.{Retire}
use Rattle.conn_loop.proofs.Meeting.{alone_stands, free_held, meets_retire, quiet_free, still_free}
use Rattle.conn_loop.proofs.needs.retire.Goals as goal

pub returns-clause-meets : goal.returns-clause-meets
returns-clause-meets g c = λ s h.
    let t = c.take_retire-half in
    meets_retire g.H.Host.serves _ _ _ _ s t.result c.retire-memory.result c.requires.asks.kind c.requires.at.1 c.retire-memory.ensures.retired c.retire-memory.ensures.kept
    c.give_retired.ensures.broken (c.give_retired.ensures.next _ (t.ensures.done s h))

pub returns-clause-held : goal.returns-clause-held
returns-clause-held g c =
    let asks = c.requires.asks in
    let t = c.take_retire-half in
    let d = c.give_retired.new.self in
    let stands = alone_stands d asks.state (Retire t.result) refl (c.give_retired.ensures.next _ (t.ensures.done asks.state asks.stands)) in
    free_held g.H.Host.holds (g.H.Host.desk c.retire-memory.new.self) d
    (still_free c.args.conn.now d asks.state (Retire t.result) [] asks.stands stands (quiet_free c.args.conn.now needs.Retire asks.kind refl asks.hold) refl refl)
