use Rattle.spop_data.proofs.Steps.{on_ok}
use Rattle.spop_data.proofs.Written.{value}
use Rattle.spop_data.proofs.write.write_data.Goals as goal

pub returns-else-is_err-clause-spelled : goal.returns-else-is_err-clause-spelled
returns-else-is_err-clause-spelled c = on_ok c.put_data-written.result (value c.args.value.now) c.put_data-written.ensures.held
