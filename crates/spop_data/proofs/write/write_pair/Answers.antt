use Rattle.spop_data.proofs.Steps.{on_ok}
use Rattle.spop_data.proofs.Written.{pair}
use Rattle.spop_data.proofs.write.write_pair.Goals as goal

pub returns-else-is_err-clause-spelled : goal.returns-else-is_err-clause-spelled
returns-else-is_err-clause-spelled c = on_ok c.put_pair-written.result (pair c.args.pair.now) c.put_pair-written.ensures.held
