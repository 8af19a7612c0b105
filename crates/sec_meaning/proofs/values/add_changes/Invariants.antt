use Rattle.std.proofs.Common.{◌≡◌, ◌++◌, drop}
use Rattle.sec_meaning.specs.Values.{changes}
use Rattle.sec_meaning.proofs.values.add_changes.Given as goal

abbrev pub invariant-loop-transform : goal.invariant-loop-transform
invariant-loop-transform l = l.out ++ changes (drop l.transform-index l.transforms) l.text ≡ l.fn.out ++ changes l.transforms l.value
