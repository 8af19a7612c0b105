use Rattle.std.proofs.Common.{ℕ, List, refl, subst}
use Rattle.conn_core.specs.declared.need.Need.TheVariants as needs
use Rattle.conn_core.specs.Calls.{app_of}
use Rattle.conn_core.specs.Trace.{Look}
use Rattle.conn_loop.specs.Answered.{look_replies}
use Rattle.conn_loop.proofs.Meeting.{free_held, look_stands, meets_look, no_ticket_looked, quiet_free, still_free}
use Rattle.conn_loop.proofs.needs.look.Goals as goal

pub returns-clause-meets : goal.returns-clause-meets
returns-clause-meets g c = λ s h.
    meets_look g.H.Host.serves _ _ _ _ s _ c.look-answer.result c.requires.asks.kind c.requires.at.1
    (subst (λ (l : List ℕ). g.H.Host.serves (g.H.Host.desk c.args.host.now) (Look l) (look_replies c.look-answer.result) (g.H.Host.desk c.look-answer.new.self)) c.app.ensures c.look-answer.ensures.serves)
    c.give_look.ensures.broken (look_stands c.give_look.new.self s _ c.look-answer.result (c.give_look.ensures.next s h))

pub returns-clause-held : goal.returns-clause-held
returns-clause-held g c =
    let asks = c.requires.asks in
    let d = c.give_look.new.self in
    let answer = c.look-answer.result in
    let stands = look_stands d asks.state _ answer (c.give_look.ensures.next asks.state asks.stands) in
    free_held g.H.Host.holds (g.H.Host.desk c.look-answer.new.self) d
    (still_free c.args.conn.now d asks.state (Look (app_of c.args.conn.now.stage)) (look_replies answer) asks.stands stands (quiet_free c.args.conn.now needs.Look asks.kind refl asks.hold) (no_ticket_looked _ _ _ answer) refl)
