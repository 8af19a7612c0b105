use Rattle.std.proofs.Common.{◌≡◌, ◌∙◌, sym, ap, Result, Ok, [], ◌∷◌}
use Rattle.sec_ast.specs.Print.{listing_text}
use Rattle.sec_ast.specs.declared.listing.Listing.{Listing}
use Rattle.sec_read.specs.declared.faults.Found.{Found}
use Rattle.sec_read.specs.Listing.{listing}
use Rattle.sec_round_trip.specs.Printable.{in_place}
use Rattle.sec_round_trip.proofs.readings.listings_are_read_back.Goals as goal

pub returns-clause-found : goal.returns-clause-found
returns-clause-found c = λ files others names name found bytes read limits printed.
    c.printed_listings_are_read.ensures others name found (c.listings_that_were_read_can_be_printed.ensures files names found bytes read limits) printed

same_listing : (read : Result Listing Found) (a b : Listing) → read ≡ Ok a → read ≡ Ok b → a ≡ b
same_listing read a b p q = let both = sym p ∙ q in cc

pub returns-clause-text : goal.returns-clause-text
returns-clause-text c = λ files others names name found again bytes read limits printed reread.
    let same : in_place name found ≡ again = same_listing (listing others (name ∷ [])) (in_place name found) again (returns-clause-found c files others names name found bytes read limits printed) reread in
    ap listing_text (sym same) ∙ c.places_are_not_printed.ensures name found
