use Rattle.std.proofs.Common.{ap}
use Rattle.sec_ops.specs.Hits.{hit_of, when}
use Rattle.sec_ops.proofs.built.addresses_test.Goals as goal

pub returns-in-Ok-clause-ok : goal.returns-in-Ok-clause-ok
unfolding hit_of
returns-in-Ok-clause-ok c = λ argument value. ap when (c.in-Ok.ensures.test value)

pub returns-in-Ok-clause-word : goal.returns-in-Ok-clause-word
returns-in-Ok-clause-word c = λ at bad. absurd (c.in-Ok.ensures.refused at bad)
