use Rattle.std.proofs.Common.{◌≡◌, take}
use Rattle.phrase_set.proofs.part.copies.Given as goal

abbrev pub invariant-loop-phrase : goal.invariant-loop-phrase
invariant-loop-phrase l = l.all ≡ take l.phrase-index l.phrases
