use Rattle.tx_core.proofs.Behind.{phase_behind, two_behind}
use Rattle.tx_core.proofs.laws.lines_stay_in_front.Goals as goal

pub returns-clause-phase : goal.returns-clause-phase
returns-clause-phase c = λ l p front s. phase_behind front l p s

pub returns-clause-two : goal.returns-clause-two
returns-clause-two c = λ l p q front s. two_behind front l p q s
