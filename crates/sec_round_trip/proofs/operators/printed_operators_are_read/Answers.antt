use Rattle.sec_round_trip.proofs.OperatorTexts.{operator_again}
use Rattle.sec_round_trip.proofs.operators.printed_operators_are_read.Goals as goal

pub returns : goal.returns
returns c =
    let names = c.names_of_operators.ensures in
    let words = c.printed_words_are_read.ensures in
    operator_again c.printed_macros_are_read.ensures words.phrases words.addresses words.ranges c.operator_of_its_name.ensures names.allowed names.phrases names.addresses names.blanks
