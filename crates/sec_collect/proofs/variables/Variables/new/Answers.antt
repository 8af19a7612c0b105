use Rattle.sec_collect.specs.Variables.{none}
use Rattle.sec_collect.proofs.variables.Variables.new.Goals as goal

pub invariant_of-result : goal.invariant_of-result
invariant_of-result c = rw c.new.ensures none
