use Rattle.sec_text.proofs.WordLaws.{given}
use Rattle.sec_text.proofs.words.words_of.Goals as goal

pub returns : goal.returns
returns c = rw (← c.as_slice.ensures) (given c.find_words.result c.as_slice.result.now c.find_words.ensures)
