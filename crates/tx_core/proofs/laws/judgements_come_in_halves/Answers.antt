use Rattle.tx_core.proofs.Joins.{comes_in_halves, ends_there}
use Rattle.tx_core.proofs.laws.judgements_come_in_halves.Goals as goal

pub returns-clause-stops : goal.returns-clause-stops
returns-clause-stops c = ends_there

pub returns-clause-goes : goal.returns-clause-goes
returns-clause-goes c = comes_in_halves
