use Rattle.std.proofs.Common.{◌≡◌, ◌++◌, length}
use Rattle.std.specs.List.{All, flat_map}
use Rattle.phrase_set.specs.Search.{IsSound, phrases_of}
use Rattle.phrase_set.proofs.set.PhraseSet.build.Given as goal

abbrev pub invariant-loop-rest : goal.invariant-loop-rest
invariant-loop-rest l = record {
  left : flat_map phrases_of l.parts.items ++ l.rest ≡ l.phrases;
  sound : All IsSound l.parts.items;
}

abbrev pub decreases-loop-rest : goal.decreases-loop-rest
decreases-loop-rest l = length l.rest
