use Rattle.std.proofs.Common.{length}
use Rattle.sec_parts.specs.Phrases.{is_parting, next_word, range, ranges_of}
use Rattle.sec_parts.proofs.Loops.{Goes}
use Rattle.sec_parts.proofs.phrases.read_ranges.Given as goal

abbrev pub invariant-loop-words : goal.invariant-loop-words
invariant-loop-words l = Goes (next_word is_parting range) (λ rest. length rest) l.rest l.words (ranges_of l.argument)

abbrev pub decreases-loop-words : goal.decreases-loop-words
decreases-loop-words l = length l.rest
