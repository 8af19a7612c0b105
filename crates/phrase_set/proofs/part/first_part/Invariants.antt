use Rattle.std.proofs.Common.{◌≤◌, length}
use Rattle.phrase_set.proofs.part.first_part.Given as goal

abbrev pub invariant-loop-count : goal.invariant-loop-count
invariant-loop-count l = l.count ≤ length l.phrases

abbrev pub decreases-loop-count : goal.decreases-loop-count
decreases-loop-count l = l.count
