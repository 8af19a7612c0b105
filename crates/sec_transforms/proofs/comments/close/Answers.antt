use Rattle.std.proofs.Common.{arith}
use Rattle.sec_transforms.proofs.Close.{closes, unclosed}
use Rattle.sec_transforms.proofs.comments.close.Goals as goal

pub returns-in-Some-clause-count : goal.returns-in-Some-clause-count
returns-in-Some-clause-count c = closes c.in-Some.at c.args.text.now c.in-Some.ensures.1 c.in-Some.ensures.0.before

pub returns-in-None-clause-count : goal.returns-in-None-clause-count
returns-in-None-clause-count c = unclosed c.args.text.now (λ k o. c.in-None.ensures k (omega arith) (omega (arith, o.fits)) o)
