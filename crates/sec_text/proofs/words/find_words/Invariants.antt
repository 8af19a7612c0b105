use Rattle.std.proofs.Common.{length}
use Rattle.sec_text.specs.Readers.{Takes}
use Rattle.sec_text.specs.Words.{next_word}
use Rattle.sec_text.proofs.words.find_words.Given as goal

abbrev pub invariant-loop-words : goal.invariant-loop-words
invariant-loop-words l = Takes next_word l.line l.words l.rest

abbrev pub decreases-loop-words : goal.decreases-loop-words
decreases-loop-words l = length l.rest
