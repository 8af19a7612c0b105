use Rattle.sec_round_trip.proofs.MacroReads.{macro_can_be_printed}
use Rattle.sec_round_trip.proofs.macros.macros_that_were_read_can_be_printed.Goals as goal

pub returns : goal.returns
returns c = macro_can_be_printed c.one_reading_of_a_macro.ensures.is
