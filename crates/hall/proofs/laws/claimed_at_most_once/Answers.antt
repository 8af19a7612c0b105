use Rattle.hall.proofs.Histories.{claimed_once}
use Rattle.hall.proofs.laws.claimed_at_most_once.Goals as goal

pub returns : goal.returns
returns g c s log n z h = claimed_once s log n z h
