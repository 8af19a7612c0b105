use Rattle.hall_core.specs.declared.calls.Call.TheVariants.{Park}
use Rattle.hall_core.specs.declared.calls.Reply.TheVariants.{OfPark}
use Rattle.conn_worker.proofs.Owning.{held, turned}
use Rattle.conn_worker.proofs.turns.park.Goals as goal

pub park-requires : goal.park-requires
park-requires g c = record { hall = c.requires.hall; ticket = held c.args.pass.now c.args.ticket c.requires.ticket }

pub returns : goal.returns
returns g c = turned _ _ _ _ (Park c.args.ticket c.args.deadline c.args.half) OfPark c.park.ensures.hall c.park.ensures.call
