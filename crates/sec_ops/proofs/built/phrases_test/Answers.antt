use Rattle.std.proofs.Common.{List, ℕ, ap}
use Rattle.sec_ops.specs.Hits.{hit_of, phrase_hit}
use Rattle.sec_ops.proofs.built.phrases_test.Goals as goal

pub returns-in-Ok-clause-ok : goal.returns-in-Ok-clause-ok
unfolding hit_of
returns-in-Ok-clause-ok c = λ argument value. ap (λ (phrases : List (List ℕ)). phrase_hit phrases value) c.in-Ok.ensures
