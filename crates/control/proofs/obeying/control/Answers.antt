use Rattle.std.proofs.Common.{refl, rules, ◌∙◌, ◌++◌, ◌∷◌, [], subst, arith}
use Rattle.console.specs.Orders as console
use Rattle.console.specs.Orders.{Asks}
use Rattle.console.specs.declared.next.Asked.TheVariants as asked
use Rattle.control.proofs.Orders.{obeyed_is, rose_since, runs_more}
use Rattle.control.proofs.obeying.control.Goals as goal

pub returns-in-End-clause-controlled : goal.returns-in-End-clause-controlled
returns-in-End-clause-controlled g c = record { log = c.loop.invariant.9.0; mid = _; runs = c.loop.invariant.9.1; over = (c.in-End.ensures.asks, refl) }

pub returns-in-ReadFault-clause-controlled : goal.returns-in-ReadFault-clause-controlled
returns-in-ReadFault-clause-controlled g c = record { log = c.loop.invariant.9.0; mid = _; runs = c.loop.invariant.9.1; over = (c.in-ReadFault.ensures.asks, refl) }

pub returns-in-Order-Stop-clause-controlled : goal.returns-in-Order-Stop-clause-controlled
returns-in-Order-Stop-clause-controlled g c =
    let asks = subst (λ o. Asks (asked.Order o) (console.around (g.S.Source.left c.loop.input) (g.S.Source.ends c.loop.input)) (console.around (g.S.Source.left c.next_order.new.input) (g.S.Source.ends c.next_order.new.input)))
    (search rules) c.in-Order-Stop.ensures.asks in
    record { log = c.loop.invariant.9.0; mid = _; runs = c.loop.invariant.9.1; over = (asks, refl) }

pub loop-preserved : goal.loop-preserved
loop-preserved g c =
    let i = c.loop.invariant in
    let did = obeyed_is (g.F.Files.content c.args.files.now) (g.F.Files.content c.loop.files) _ c.in-Order.order _ _ _ _ _ _ _ _ _ i.6 c.in-Order.ensures.asks c.in-All.ensures.obeyed in (
      search rules,
      search rules,
      c.obey.ensures.desk,
      c.obey.ensures.rules,
      c.obey.ensures.shares.0 ∙ i.4,
      c.obey.ensures.shares.1 ∙ i.5,
      c.obey.ensures.same ∙ i.6,
      omega (arith, i.7, c.next_order.ensures.later),
      omega (arith, i.8, c.obey.ensures.later),
      (i.9.0 ++ (c.in-Order.order, did.0) ∷ [], runs_more _ _ i.9.0 c.in-Order.order did.0 _ _ _ i.9.1 (did.1, did.2)),
    )

pub returns-in-Failed : goal.returns-in-Failed
returns-in-Failed g c =
    let i = c.loop.invariant in
    let did = obeyed_is (g.F.Files.content c.args.files.now) (g.F.Files.content c.loop.files) _ c.in-Order.order _ _ _ _ _ _ _ _ _ i.6 c.in-Order.ensures.asks c.in-Failed.ensures.obeyed in
    record {
      desk = c.obey.ensures.desk;
      rules = c.obey.ensures.rules;
      shares = (c.obey.ensures.shares.0 ∙ i.4, c.obey.ensures.shares.1 ∙ i.5);
      controlled = record { log = i.9.0; mid = _; runs = i.9.1; over = (c.in-Order.order, did.0, did.1, did.2) };
      same = c.obey.ensures.same ∙ i.6;
      read_fault = λ is. absurd (cc is);
      write_fault = λ is. rose_since _ _ _ i.8 (c.obey.ensures.cause c.in-Failed.is);
    }
