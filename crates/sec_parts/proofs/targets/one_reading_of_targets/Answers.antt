use Rattle.sec_parts.proofs.ListReadings.{targets_are, targets_only}
use Rattle.sec_parts.proofs.targets.one_reading_of_targets.Goals as goal

pub returns-clause-is : goal.returns-clause-is
returns-clause-is c = targets_are

pub returns-clause-only : goal.returns-clause-only
returns-clause-only c = targets_only
