use Rattle.std.proofs.Common.{◌≡◌, map, take}
use Rattle.sec_ops.specs.Phrases.{folded}
use Rattle.sec_ops.proofs.phrases.fold_all.Given as goal

abbrev pub invariant-loop-phrase : goal.invariant-loop-phrase
invariant-loop-phrase l = l.all ≡ map folded (take l.phrase-index l.phrase-items)
