use Rattle.std.proofs.Common.{◌≡◌, length}
use Rattle.sec_transforms.specs.Whitespace.{trimmed_right}
use Rattle.sec_transforms.proofs.whitespace.before_whitespace.Given as goal

abbrev pub invariant-loop-last : goal.invariant-loop-last
invariant-loop-last l = trimmed_right l.kept ≡ trimmed_right l.text

abbrev pub decreases-loop-last : goal.decreases-loop-last
decreases-loop-last l = length l.kept
