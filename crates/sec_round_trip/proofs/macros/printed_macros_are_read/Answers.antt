use Rattle.sec_round_trip.proofs.MacroTexts.{macro_again}
use Rattle.sec_round_trip.proofs.macros.printed_macros_are_read.Goals as goal

pub returns : goal.returns
returns c = macro_again c.variable_of_its_name.ensures c.names_of_variables.ensures.allowed c.names_of_variables.ensures.dots c.names_of_variables.ensures.closes
