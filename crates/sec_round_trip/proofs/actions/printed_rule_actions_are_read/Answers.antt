use Rattle.sec_round_trip.proofs.HeadTexts.{first_read}
use Rattle.sec_round_trip.proofs.actions.printed_rule_actions_are_read.Goals as goal

pub returns : goal.returns
returns c =
    let names = c.names_of_transforms.ensures in
    first_read c.printed_macros_are_read.ensures c.engine_of_its_name.ensures c.transform_of_its_name.ensures names.allowed names.others names.plain
