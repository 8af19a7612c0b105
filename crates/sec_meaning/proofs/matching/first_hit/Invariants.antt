use Rattle.std.proofs.Common.{◌≡◌, drop}
use Rattle.sec_ops.specs.Hits.{hit}
use Rattle.sec_meaning.specs.Values.{first_hit}
use Rattle.sec_meaning.proofs.matching.first_hit.Given as goal

abbrev pub invariant-loop-value : goal.invariant-loop-value
invariant-loop-value l = first_hit (hit l.built l.argument) (drop l.value-index l.values) ≡ first_hit (hit l.built l.argument) l.values
