use Rattle.sec_round_trip.proofs.Directives.{listing_is}
use Rattle.sec_round_trip.proofs.listings.printed_directives.Goals as goal

pub returns : goal.returns
returns c = listing_is
