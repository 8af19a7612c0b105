use Rattle.sec_text.proofs.WordLaws.{words_are, words_only}
use Rattle.sec_text.proofs.words.one_reading_of_a_line.Goals as goal

pub returns-clause-is : goal.returns-clause-is
returns-clause-is c = words_are

pub returns-clause-only : goal.returns-clause-only
returns-clause-only c = words_only
