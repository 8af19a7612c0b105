use Rattle.sec_eval.proofs.Jumps.{skipping_rules}
use Rattle.sec_eval.proofs.laws.skips_count_rules_of_the_phase.Goals as goal

pub returns : goal.returns
returns c = skipping_rules
