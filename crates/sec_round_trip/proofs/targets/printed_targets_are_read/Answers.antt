use Rattle.sec_round_trip.proofs.TargetTexts.{targets_again}
use Rattle.sec_round_trip.proofs.targets.printed_targets_are_read.Goals as goal

pub returns : goal.returns
returns c =
    let names = c.names_of_variables.ensures in
    targets_again c.quoted_texts_are_read.ensures c.variable_of_its_name.ensures names.allowed names.bars names.begins names.trimmed names.ends
