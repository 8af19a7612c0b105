use Rattle.tx_core.proofs.Stays.{part_stays, phase_stays, two_stays}
use Rattle.tx_core.proofs.laws.requests_stay.Goals as goal

pub returns-clause-phase : goal.returns-clause-phase
returns-clause-phase c = phase_stays

pub returns-clause-two : goal.returns-clause-two
returns-clause-two c = two_stays

pub returns-clause-start : goal.returns-clause-start
returns-clause-start c = part_stays
