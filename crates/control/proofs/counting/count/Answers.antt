use Rattle.hall_core.specs.declared.calls.Call.TheVariants.{Count}
use Rattle.hall_core.specs.declared.calls.Reply.TheVariants.{OfCount}
use Rattle.conn_worker.proofs.Owning.{turned}
use Rattle.control.proofs.counting.count.Goals as goal

pub returns : goal.returns
returns g c = turned _ _ _ _ Count (OfCount c.counts.result) c.counts.ensures.hall c.counts.ensures.call
