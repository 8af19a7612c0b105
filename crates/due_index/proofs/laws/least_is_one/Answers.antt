use Rattle.due_index.proofs.Firsts.{one_least}
use Rattle.due_index.proofs.laws.least_is_one.Goals as goal

pub returns : goal.returns
returns c = one_least
