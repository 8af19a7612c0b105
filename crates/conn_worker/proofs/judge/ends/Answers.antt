use Rattle.std.proofs.Common.{sym, ◌∙◌}
use Rattle.tx_core.specs.Halves.{RetiresAs}
use Rattle.conn_worker.proofs.Given.{given}
use Rattle.conn_worker.proofs.judge.ends.Goals as goal

pub returns : goal.returns
returns c = λ e. given (λ lines. RetiresAs c.args.half lines) c.retired.result c.retired.ensures (sym c.is_ok.ensures.value ∙ e)
