use Rattle.std.proofs.Common.{arith}
use Rattle.sec_transforms.proofs.comments.before_comment.Goals as goal

pub returns-in-None-clause-none : goal.returns-in-None-clause-none
returns-in-None-clause-none c = λ k low high o. c.in-None.ensures k low (omega (arith, high)) o
