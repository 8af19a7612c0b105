use Rattle.tx_core.proofs.NoRules.{last_none}
use Rattle.tx_core.proofs.laws.logging_may_be_empty.Goals as goal

pub returns : goal.returns
returns c = last_none
