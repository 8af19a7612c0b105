use Rattle.sec_round_trip.proofs.ListingTexts.{same_text}
use Rattle.sec_round_trip.proofs.readings.places_are_not_printed.Goals as goal

pub returns : goal.returns
returns c = same_text
