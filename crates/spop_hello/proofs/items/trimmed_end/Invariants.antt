use Rattle.std.proofs.Common.{◌≡◌, length}
use Rattle.spop_hello.specs.Items.{without_end}
use Rattle.spop_hello.proofs.items.trimmed_end.Given as goal

abbrev pub invariant-loop-last : goal.invariant-loop-last
invariant-loop-last l = without_end l.rest ≡ without_end l.item

abbrev pub decreases-loop-last : goal.decreases-loop-last
decreases-loop-last l = length l.rest
