use Rattle.sec_round_trip.proofs.TargetReads.{targets_can_be_printed}
use Rattle.sec_round_trip.proofs.targets.targets_that_were_read_can_be_printed.Goals as goal

pub returns : goal.returns
returns c = targets_can_be_printed
