use Rattle.std.proofs.Common.{◌≡◌, length}
use Rattle.sec_ops.specs.Escapes.{has_bad_escape}
use Rattle.sec_ops.proofs.escapes.has_bad_escape.Given as goal

abbrev pub invariant-loop-first : goal.invariant-loop-first
invariant-loop-first l = has_bad_escape l.rest ≡ has_bad_escape l.value

abbrev pub decreases-loop-first : goal.decreases-loop-first
decreases-loop-first l = length l.rest
