use Rattle.std.proofs.Common.{[], ◌∷◌, refl}
use Rattle.conn_core.specs.declared.need.Need.TheVariants as needs
use Rattle.conn_core.specs.Calls.{claim_of}
use Rattle.conn_core.specs.Trace.{Resume}
use Rattle.conn_loop.proofs.Meeting.{free_held, meets_full, no_ticket_claimed, quiet_free, still_free}
use Rattle.conn_loop.proofs.needs.resume.Goals as goal

pub returns-clause-meets : goal.returns-clause-meets
returns-clause-meets g c = λ s h.
    meets_full g.H.Host.serves _ _ _ _ s (Resume c.take_key.result) _ c.requires.asks.kind c.requires.at.1 c.resume-answer.ensures.serves refl
    (c.give_claim.ensures.next _ (c.take_key.ensures.resumed c.requires.at.0 s h))

pub returns-clause-held : goal.returns-clause-held
returns-clause-held g c =
    let asks = c.requires.asks in
    let d = c.give_claim.new.self in
    let answer = c.resume-answer.result in
    let stands = c.give_claim.ensures.next _ (c.take_key.ensures.resumed c.requires.at.0 asks.state asks.stands) in
    free_held g.H.Host.holds (g.H.Host.desk c.resume-answer.new.self) d
    (still_free c.args.conn.now d asks.state (Resume c.take_key.result) (claim_of answer ∷ []) asks.stands stands (quiet_free c.args.conn.now needs.Resume asks.kind refl asks.hold) (no_ticket_claimed _ _ _ answer) refl)
