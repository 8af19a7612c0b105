use Rattle.std.proofs.Common.{Ok, sym}
use Rattle.sec_text.proofs.WordLaws.{words_only}
use Rattle.sec_text.proofs.WrittenLaws.{spread_again}
use Rattle.sec_text.specs.Written.{spread}
use Rattle.sec_text.proofs.words.written_words_are_read.Goals as goal

pub returns : goal.returns
returns c = λ given all. sym (words_only (spread given) (Ok given) (spread_again given all))
