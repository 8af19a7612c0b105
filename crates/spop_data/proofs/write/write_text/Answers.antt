use Rattle.spop_data.proofs.Written.{text}
use Rattle.spop_data.proofs.write.write_text.Goals as goal

pub returns-else-is_err-clause-spelled : goal.returns-else-is_err-clause-spelled
returns-else-is_err-clause-spelled c = text c.args.text.now c.put_counted-written.ensures.small

pub returns-then-is_err-clause-spelled : goal.returns-then-is_err-clause-spelled
returns-then-is_err-clause-spelled c = text c.args.text.now c.put_counted-written.ensures.small
