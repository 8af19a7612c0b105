use Rattle.std.proofs.Common.{length}
use Rattle.sec_parts.specs.Phrases.{addresses_of, as_it_is, is_parting, next_word}
use Rattle.sec_parts.proofs.Loops.{Goes}
use Rattle.sec_parts.proofs.phrases.read_addresses.Given as goal

abbrev pub invariant-loop-words : goal.invariant-loop-words
invariant-loop-words l = Goes (next_word is_parting as_it_is) (λ rest. length rest) l.rest l.words (addresses_of l.argument)

abbrev pub decreases-loop-words : goal.decreases-loop-words
decreases-loop-words l = length l.rest
