use Rattle.std.proofs.Common.{◌≡◌, drop}
use Rattle.sec_ops.specs.Number.{trimmed}
use Rattle.sec_ops.proofs.numbers.behind_whitespace.Given as goal

abbrev pub invariant-loop-index : goal.invariant-loop-index
invariant-loop-index l = trimmed (drop l.index l.text) ≡ trimmed l.text
