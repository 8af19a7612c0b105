use Rattle.spop_hello.proofs.Statuses.{agreed_range}
use Rattle.spop_hello.proofs.terms.negotiate.Goals as goal

pub returns-in-Ok-clause-refused : goal.returns-in-Ok-clause-refused
returns-in-Ok-clause-refused c = agreed_range c.args.own_size c.as_slice.result.now c.agree.result c.agree.ensures
