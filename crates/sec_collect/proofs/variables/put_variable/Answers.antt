use Rattle.std.proofs.Common.{rules}
use Rattle.sec_collect.proofs.Puts.{stay_put}
use Rattle.sec_collect.proofs.variables.put_variable.Goals as goal

pub invariant_of-tx : goal.invariant_of-tx
invariant_of-tx c = stay_put c.put.result c.args.name.now c.args.value.now c.tx.inside.rows c.put.new.rows (search rules) c.tx.invariant c.put.ensures.ok c.put.ensures.err
