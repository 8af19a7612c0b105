use Rattle.sec_parts.proofs.Shrinking.{words_are}
use Rattle.sec_parts.proofs.phrases.one_reading_of_words.Goals as goal

pub returns : goal.returns
returns c = words_are
