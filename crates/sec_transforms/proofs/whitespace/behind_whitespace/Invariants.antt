use Rattle.std.proofs.Common.{◌≡◌, drop}
use Rattle.sec_transforms.specs.Whitespace.{trimmed_left}
use Rattle.sec_transforms.proofs.whitespace.behind_whitespace.Given as goal

abbrev pub invariant-loop-index : goal.invariant-loop-index
invariant-loop-index l = trimmed_left (drop l.index l.text) ≡ trimmed_left l.text
