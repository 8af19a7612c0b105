use Rattle.std.proofs.Common.{length}
use Rattle.sec_parts.specs.Phrases.{next_word, phrase, phrases_of}
use Rattle.sec_text.specs.Quotes.{is_blank}
use Rattle.sec_parts.proofs.Loops.{Goes}
use Rattle.sec_parts.proofs.phrases.read_phrases.Given as goal

abbrev pub invariant-loop-words : goal.invariant-loop-words
invariant-loop-words l = Goes (next_word is_blank phrase) (λ rest. length rest) l.rest l.words (phrases_of l.argument)

abbrev pub decreases-loop-words : goal.decreases-loop-words
decreases-loop-words l = length l.rest
