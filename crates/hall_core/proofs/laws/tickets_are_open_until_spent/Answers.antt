use Rattle.std.proofs.Common.{refl}
use Rattle.hall_core.specs.declared.calls.Call.TheVariants.{Enter}
use Rattle.hall_core.specs.declared.calls.Entry.TheVariants.{Entered}
use Rattle.hall_core.specs.declared.calls.Reply.TheVariants.{OfEnter}
use Rattle.hall_core.specs.Promised.{call_of, reply_of}
use Rattle.hall_core.specs.Keeping.{fresh_open, stays_open}
use Rattle.hall_core.proofs.laws.tickets_are_open_until_spent.Goals as goal

pub returns-clause-fresh : goal.returns-clause-fresh
returns-clause-fresh g c s log own key t z h part =
    let free = fresh_open call_of reply_of s log own (Enter key, OfEnter (Entered t)) key t z h refl refl part in ((λ deadline value. free), free)

pub returns-clause-stays : goal.returns-clause-stays
returns-clause-stays g c s lists i n own call reply k at was f m a none = stays_open call_of reply_of s lists i n own (call, reply) k at was f m a none
