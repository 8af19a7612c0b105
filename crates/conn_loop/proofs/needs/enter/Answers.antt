use Rattle.std.proofs.Common.{refl}
use Rattle.conn_core.specs.declared.need.Need.TheVariants as needs
use Rattle.conn_core.specs.Trace.{Enter}
use Rattle.conn_loop.proofs.Meeting.{given_held, meets_full, quiet_free}
use Rattle.conn_loop.proofs.needs.enter.Goals as goal

pub returns-clause-meets : goal.returns-clause-meets
returns-clause-meets g c = λ s h.
    meets_full g.H.Host.serves _ _ _ _ s (Enter c.take_key.result) _ c.requires.asks.kind c.requires.at.1 c.enter-answer.ensures.serves refl
    (c.give_entry.ensures.next _ (c.take_key.ensures.entered c.requires.at.0 s h))

pub returns-clause-held : goal.returns-clause-held
returns-clause-held g c =
    let asks = c.requires.asks in
    given_held g.H.Host.holds (g.H.Host.desk c.enter-answer.new.self) c.args.conn.now c.give_entry.new.self asks.state (Enter c.take_key.result) c.enter-answer.result asks.stands
    (c.give_entry.ensures.next _ (c.take_key.ensures.entered c.requires.at.0 asks.state asks.stands)) (quiet_free c.args.conn.now needs.Enter asks.kind refl asks.hold) refl c.enter-answer.ensures.holds
