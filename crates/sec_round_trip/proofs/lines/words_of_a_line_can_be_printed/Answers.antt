use Rattle.sec_round_trip.proofs.ReadTexts.{words_can_be_printed}
use Rattle.sec_round_trip.proofs.lines.words_of_a_line_can_be_printed.Goals as goal

pub returns : goal.returns
returns c = words_can_be_printed
