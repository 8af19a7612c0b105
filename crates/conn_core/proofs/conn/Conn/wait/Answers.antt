use Rattle.std.proofs.Common.{◌≡◌, true, length, ap, sym, ◌∙◌}
use Rattle.conn_core.specs.declared.need.Closing.TheVariants as closings
use Rattle.conn_core.specs.declared.stage.Stage.TheVariants as at
use Rattle.conn_core.specs.Stands.{ConnView}
use Rattle.conn_core.proofs.Inner.{end_empty, end_more, shut_down}
use Rattle.conn_core.proofs.Steps.{stands}
use Rattle.conn_core.proofs.conn.Conn.wait.Goals as goal

pub returns-then-held-eq0-clause-next : goal.returns-then-held-eq0-clause-next
returns-then-held-eq0-clause-next g c = λ s p.
    let self = c.args.self.now in
    let ended : self.ended ≡ true = ap (λ (h : ConnView g.row.R.Denot g.row.P.Denot g.row.T.Denot). h.ended) (sym c.self.view_is) ∙ c.if-not-self.false in
    let none : length self.unread ≡ 0 = rw (← c.self.view_is) (sym c.held.ensures ∙ c.if-held-eq0.true) in
    let next = stands (record self { stage = at.Close closings.Done }) s c.requires.whole tt (shut_down self s c.requires.at closings.Done c.requires.head ended (end_empty self.unread none) p) in
    rw c.set.ensures (rw (← c.self.view_is) at next)

pub returns-clause-next : goal.returns-clause-next
returns-clause-next g c = λ s p.
    let self = c.args.self.now in
    let ended : self.ended ≡ true = ap (λ (h : ConnView g.row.R.Denot g.row.P.Denot g.row.T.Denot). h.ended) (sym c.self.view_is) ∙ c.if-not-self.false in
    let some : length self.unread ≡ 0 → ⊥ = rw (← c.self.view_is) (λ z. c.if-held-eq0.false (c.held.ensures ∙ z)) in
    let next = stands (record self { stage = at.Close closings.CutShort }) s c.requires.whole tt (shut_down self s c.requires.at closings.CutShort c.requires.head ended (end_more self.unread some) p) in
    rw c.set-2.ensures (rw (← c.self.view_is) at next)
