use Rattle.sec_round_trip.proofs.Spreads.{quoted_again}
use Rattle.sec_round_trip.proofs.quotes.quoted_texts_are_read.Goals as goal

pub returns : goal.returns
returns c = quoted_again
