use Rattle.std.proofs.Common.{ℕ, List, ◌++◌, ◌∙◌, ap}
use Rattle.sec_text.specs.Words.{words}
use Rattle.sec_round_trip.proofs.Names.{line_again}
use Rattle.sec_round_trip.proofs.Spreads.{spread_same}
use Rattle.sec_round_trip.proofs.lines.words_of_a_printed_line.Goals as goal

pub returns : goal.returns
returns c = λ name given h all. ap (λ (l : List ℕ). words (name ++ l)) (spread_same given) ∙ line_again name given h all
