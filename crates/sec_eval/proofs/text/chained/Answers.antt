use Rattle.std.proofs.Common.{refl}
use Rattle.sec_transforms.specs.Apply.{chained}
use Rattle.sec_eval.proofs.text.chained.Goals as goal

pub returns-then-is_empty : goal.returns-then-is_empty
unfolding chained
returns-then-is_empty c = rw (c.is_empty.ensures.0 c.if-is_empty.true) refl
