use Rattle.std.proofs.Common.{◌≡◌, ◌≤◌, false, take, ℕ, List}
use Rattle.console.specs.Orders.{IsLine, Takes, around}
use Rattle.console.proofs.next.next_order.Given as goal

abbrev pub invariant-loop : goal.invariant-loop
invariant-loop g l =
    (goal.iterator-loop g).can_next l.iterator' × (goal.iterator-loop g).is_finite l.iterator'
    × ((seen : List ℕ) × IsLine seen × (l.line.items ≡ take 8 seen) × Takes seen false (around (g.S.Source.left l.initial.input) (g.S.Source.ends l.initial.input)) (around (g.S.Source.left l.input) (g.S.Source.ends l.input)))
    × (g.S.Source.faults l.initial.input ≤ g.S.Source.faults l.input)
