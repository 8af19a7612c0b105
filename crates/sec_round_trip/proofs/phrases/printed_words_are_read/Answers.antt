use Rattle.sec_round_trip.proofs.WordTexts.{addresses_again, phrases_again, ranges_again}
use Rattle.sec_round_trip.proofs.phrases.printed_words_are_read.Goals as goal

pub returns-clause-phrases : goal.returns-clause-phrases
returns-clause-phrases c = phrases_again

pub returns-clause-addresses : goal.returns-clause-addresses
returns-clause-addresses c = addresses_again

pub returns-clause-ranges : goal.returns-clause-ranges
returns-clause-ranges c = ranges_again
