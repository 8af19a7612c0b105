use Rattle.std.proofs.Common.{List, ℕ, Option, ap}
use Rattle.sec_ops.specs.Hits.{hit_of, when}
use Rattle.sec_ops.specs.Ranges.{has_other}
use Rattle.sec_ops.proofs.built.ranges_test.Goals as goal

pub returns-in-Ok-clause-ok : goal.returns-in-Ok-clause-ok
unfolding hit_of
returns-in-Ok-clause-ok c = λ argument value. ap (λ (ranges : List (Option (ℕ × ℕ))). when (has_other ranges value)) c.in-Ok.ensures
