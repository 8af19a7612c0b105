use Rattle.std.proofs.Common.{◌≡◌, take, map}
use Rattle.phrase_set.proofs.part.needles.Given as goal

abbrev pub invariant-loop-phrase : goal.invariant-loop-phrase
invariant-loop-phrase l = map (λ needle. needle.items) l.all.items ≡ take l.phrase-index l.phrases
