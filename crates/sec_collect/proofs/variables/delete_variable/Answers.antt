use Rattle.sec_collect.specs.Variables.{by_deletion}
use Rattle.sec_collect.proofs.variables.delete_variable.Goals as goal

pub invariant_of-tx : goal.invariant_of-tx
invariant_of-tx c = rw (c.without.ensures, c.replace-rows.ensures.value) (by_deletion c.args.name.now c.tx.inside.rows c.tx.invariant)
