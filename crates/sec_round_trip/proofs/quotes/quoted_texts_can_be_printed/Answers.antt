use Rattle.sec_round_trip.proofs.ReadTexts.{quoted_can_be_printed}
use Rattle.sec_round_trip.proofs.quotes.quoted_texts_can_be_printed.Goals as goal

pub returns : goal.returns
returns c = quoted_can_be_printed
