use Rattle.std.proofs.Common.{◌≡◌, drop}
use Rattle.sec_read.specs.Removals.{with_ids}
use Rattle.sec_read.proofs.removals.Removals.with_ids.Given as goal

abbrev pub invariant-loop-word : goal.invariant-loop-word
invariant-loop-word l = with_ids (drop l.word-index l.words) l.removals ≡ with_ids l.words l.fn.self
