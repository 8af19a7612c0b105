use Rattle.std.proofs.Common.{ℕ, ◌<◌, length, get_or, []}
use Rattle.phrase_set.proofs.part.has_empty.Given as goal

abbrev pub invariant-loop-phrase : goal.invariant-loop-phrase
invariant-loop-phrase l = (n : ℕ) → n < l.phrase-index → 0 < length (get_or l.phrases n [])
