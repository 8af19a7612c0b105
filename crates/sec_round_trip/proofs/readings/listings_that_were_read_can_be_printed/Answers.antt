use Rattle.std.proofs.Common.{true}
use Rattle.sec_round_trip.proofs.ListingReads.{read_is_good}
use Rattle.sec_round_trip.proofs.MacroAlike.{macro_alike}
use Rattle.sec_round_trip.proofs.PrintableReads.{good_is_printable}
use Rattle.sec_round_trip.proofs.StepReads.{directive_good}
use Rattle.sec_round_trip.proofs.readings.listings_that_were_read_can_be_printed.Goals as goal

pub returns : goal.returns
returns c = λ files names found bytes read limits.
    let vars = c.names_of_variables.ensures in
    let ops = c.names_of_operators.ensures in
    let transforms = c.names_of_transforms.ensures in
    let step = directive_good c.macros_that_were_read_can_be_printed.ensures (macro_alike true vars.equals vars.printed c.one_reading_of_a_macro.ensures.is) vars.printed vars.backslash ops.printed ops.backslash files bytes in
    good_is_printable transforms.plain transforms.printed found (read_is_good files bytes step names found read) limits
