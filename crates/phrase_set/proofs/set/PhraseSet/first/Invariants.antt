use Rattle.std.proofs.Common.{length, take}
use Rattle.std.specs.List.{flat_map}
use Rattle.phrase_set.specs.Phrases.{IsFirstEnd}
use Rattle.phrase_set.specs.Search.{phrases_of}
use Rattle.phrase_set.proofs.set.PhraseSet.first.Given as goal

abbrev pub invariant-loop-part : goal.invariant-loop-part
invariant-loop-part l = IsFirstEnd (length (flat_map phrases_of (take l.part-index l.part-items))) (flat_map phrases_of (take l.part-index l.part-items)) l.value l.best
