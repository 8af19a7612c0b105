use Rattle.std.proofs.Common.{◌≡◌, length}
use Rattle.web_parts.specs.Pieces.{without_start}
use Rattle.web_parts.proofs.pieces.without_start.Given as goal

abbrev pub invariant-loop-first : goal.invariant-loop-first
invariant-loop-first l = without_start l.rest ≡ without_start l.text

abbrev pub decreases-loop-first : goal.decreases-loop-first
decreases-loop-first l = length l.rest
