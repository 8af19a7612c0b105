use Rattle.std.proofs.Common.{sym}
use Rattle.conn_core.proofs.Served.{claimed, not_claimed}
use Rattle.conn_core.proofs.conn.Conn.give_claim.Goals as goal

pub returns-in-Some-clause-next : goal.returns-in-Some-clause-next
returns-in-Some-clause-next g c = λ s h. let h2 = rw (← c.self.view_is) at h in (rw (c.set.ensures, c.in-Some.is) (claimed _ s _ c.in-Resuming.response c.in-Some.half (sym c.in-Resuming.ensures.value) h2))

pub returns-in-None-clause-next : goal.returns-in-None-clause-next
returns-in-None-clause-next g c = λ s h. let h2 = rw (← c.self.view_is) at h in (rw c.in-None.is (c.outcome.ensures.next _ (not_claimed _ s _ c.in-Resuming.response (sym c.in-Resuming.ensures.value) h2)))
