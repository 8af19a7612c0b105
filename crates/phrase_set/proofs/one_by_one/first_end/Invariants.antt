use Rattle.std.proofs.Common.{◌≡◌, take}
use Rattle.phrase_set.specs.Phrases.{IsFirstEnd, first_end}
use Rattle.phrase_set.proofs.one_by_one.first_end.Given as goal

abbrev pub invariant-loop-phrase : goal.invariant-loop-phrase
invariant-loop-phrase l = record {
  first : IsFirstEnd l.phrase-index l.phrases l.text l.best;
  value : l.best ≡ first_end (take l.phrase-index l.phrases) l.text;
}
