use Rattle.sec_parts.proofs.ListReadings.{actions_are, actions_only}
use Rattle.sec_parts.proofs.acts.one_reading_of_actions.Goals as goal

pub returns-clause-is : goal.returns-clause-is
returns-clause-is c = actions_are

pub returns-clause-only : goal.returns-clause-only
returns-clause-only c = actions_only
