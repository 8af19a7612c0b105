use Rattle.sec_round_trip.proofs.DecimalTexts.{number_again}
use Rattle.sec_round_trip.proofs.numbers.printed_numbers_are_read.Goals as goal

pub returns : goal.returns
returns c = number_again
