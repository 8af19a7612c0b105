use Rattle.std.proofs.Common.{◌≡◌, length}
use Rattle.spop_hello.specs.Items.{without_start}
use Rattle.spop_hello.proofs.items.trimmed_start.Given as goal

abbrev pub invariant-loop-first : goal.invariant-loop-first
invariant-loop-first l = without_start l.rest ≡ without_start l.item

abbrev pub decreases-loop-first : goal.decreases-loop-first
decreases-loop-first l = length l.rest
