use Rattle.std.proofs.Common.{◌≡◌, ◌++◌, drop}
use Rattle.sec_collect.specs.Captures.{numbered}
use Rattle.sec_collect.proofs.captures.numbered.Given as goal

abbrev pub invariant-loop-number : goal.invariant-loop-number
invariant-loop-number l = l.rows ++ numbered l.number (drop l.number l.texts) ≡ numbered 0 l.texts
