use Rattle.std.proofs.Common.{drop}
use Rattle.sec_meaning.specs.Phase.{EndsAs, walk}
use Rattle.sec_meaning.specs.declared.state.Passing.TheVariants.{Looking}
use Rattle.sec_meaning.proofs.phase.walk.Given as goal

abbrev pub invariant-loop-item : goal.invariant-loop-item
invariant-loop-item l = EndsAs (walk l.number l.items Looking l.fn.state) (walk l.number (drop l.item-index l.items) l.passing l.state)
