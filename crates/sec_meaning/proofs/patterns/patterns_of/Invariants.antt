use Rattle.std.proofs.Common.{◌≡◌, take}
use Rattle.sec_ops.specs.Selectors.{patterns_of}
use Rattle.sec_meaning.proofs.patterns.patterns_of.Given as goal

abbrev pub invariant-loop-target : goal.invariant-loop-target
invariant-loop-target l = l.patterns ≡ patterns_of (take l.target-index l.targets)
