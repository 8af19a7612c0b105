use Rattle.hall_core.specs.declared.calls.Call.TheVariants.{Expire}
use Rattle.hall_core.specs.declared.calls.Reply.TheVariants.{OfExpire}
use Rattle.conn_worker.proofs.Owning.{turned}
use Rattle.conn_worker.proofs.turns.expire.Goals as goal

pub returns-in-Expired : goal.returns-in-Expired
returns-in-Expired g c = (c.expire.result, turned _ _ _ _ (Expire c.args.moment) (OfExpire c.expire.result) c.expire.ensures.hall c.expire.ensures.call)

pub returns-in_default : goal.returns-in_default
returns-in_default g c = (c.expire.result, turned _ _ _ _ (Expire c.args.moment) (OfExpire c.expire.result) c.expire.ensures.hall c.expire.ensures.call)
