use Rattle.std.proofs.Common.{rules, refl, ap, ◌∙◌, inl, ◌∷◌, ◌++◌, [], List, ℕ, take, true, false, subst}
use Rattle.std.proofs.lemmas.List.{append-nil}
use Rattle.console.specs.declared.next.TheConstants.{LINE_FEED}
use Rattle.console.specs.Orders.{Takes, around, order_of}
use Rattle.console.proofs.Lines.{ends_with, kept_more, order_kept}
use Rattle.console.proofs.Taking.{goes_on, line_grows, took_none}
use Rattle.console.proofs.next.next_order.Goals as goal

pub loop-init : goal.loop-init
loop-init g c = (search rules, search rules, ([], search rules, search rules, took_none _ _ refl), search rules)

pub returns-in-Byte-eq10-clause-asks : goal.returns-in-Byte-eq10-clause-asks
returns-in-Byte-eq10-clause-asks g c =
    let i = c.loop.invariant.2 in (
      i.0,
      i.1,
      c.order_of.ensures ∙ ap order_of (c.deref.ensures.0 ∙ i.2) ∙ order_kept i.0,
      inl (goes_on _ _ (LINE_FEED ∷ []) _ _ _ i.3 (subst (λ (n : ℕ). Takes (n ∷ []) false (around (g.S.Source.left c.loop.input) (g.S.Source.ends c.loop.input)) (around (g.S.Source.left c.next_byte.new.input) (g.S.Source.ends c.next_byte.new.input))) (search rules) c.in-Byte-eq10.ensures.takes)),
    )

pub loop-preserved : goal.loop-preserved
loop-preserved g c =
    let i = c.loop.invariant.2 in (
      search rules,
      search rules,
      (
        i.0 ++ c.in-Byte.byte ∷ [],
        line_grows i.0 c.in-Byte.byte i.1 c.in-Byte.byte-test.1,
        c.add.ensures ∙ ap (λ (l : List ℕ). take 8 (l ++ c.in-Byte.byte ∷ [])) i.2 ∙ kept_more i.0 c.in-Byte.byte,
        goes_on _ _ _ _ _ _ i.3 c.in-Byte.ensures.takes,
      ),
      search rules,
    )

pub returns-in-End-clause-asks : goal.returns-in-End-clause-asks
returns-in-End-clause-asks g c =
    let i = c.loop.invariant.2 in
    ends_with i.0 c.deref-in-End.result.now _ _ _ (c.deref-in-End.ensures.0 ∙ i.2) i.1 (subst (λ (l : List ℕ). Takes l true (around (g.S.Source.left c.args.input.now) (g.S.Source.ends c.args.input.now)) (around (g.S.Source.left c.next_byte.new.input) (g.S.Source.ends c.next_byte.new.input))) (append-nil i.0) (goes_on _ _ _ _ _ _ i.3 c.in-End.ensures.takes)) c.at_end.ensures.none c.at_end.ensures.last
