use Rattle.hall_core.specs.declared.calls.Call.TheVariants.{Leave}
use Rattle.hall_core.specs.declared.calls.Reply.TheVariants.{OfLeave}
use Rattle.conn_worker.proofs.Owning.{held, turned}
use Rattle.conn_worker.proofs.turns.leave.Goals as goal

pub leave-requires : goal.leave-requires
leave-requires g c = record { hall = c.requires.hall; ticket = held c.args.pass.now c.args.ticket c.requires.ticket }

pub returns : goal.returns
returns g c = turned _ _ _ _ (Leave c.args.ticket) OfLeave c.leave.ensures.hall c.leave.ensures.call
