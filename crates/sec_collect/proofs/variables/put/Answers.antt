use Rattle.std.proofs.Common.{arith}
use Rattle.std.proofs.lemmas.Grind.{common_steps}
use Rattle.sec_collect.proofs.Puts.{items_put, put_here}
use Rattle.sec_collect.proofs.variables.put.Goals as goal

pub returns-then-place-as_slice-clause-ok : goal.returns-then-place-as_slice-clause-ok
returns-then-place-as_slice-clause-ok c = grind (arith, common_steps, items_put, put_here)
