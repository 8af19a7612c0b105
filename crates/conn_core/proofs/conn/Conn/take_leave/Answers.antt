use Rattle.std.proofs.Common.{sym}
use Rattle.conn_core.proofs.Served.{left_plain, left_broken}
use Rattle.conn_core.proofs.conn.Conn.take_leave.Goals as goal

pub returns-in-Leave-clause-next : goal.returns-in-Leave-clause-next
returns-in-Leave-clause-next g c = λ s h. let h2 = rw (← c.self.view_is) at h in (c.outcome.ensures.next _ (rw c.let_out-ticket.ensures.none (left_plain _ s _ c.let_out-ticket.result _ (sym c.in-Leave.ensures.value) c.let_out-ticket.ensures.was h2)))

pub returns-in-LastLeave-clause-next : goal.returns-in-LastLeave-clause-next
returns-in-LastLeave-clause-next g c = λ s h. let h2 = rw (← c.self.view_is) at h in (rw (c.set.ensures, c.let_out-ticket-in-LastLeave.ensures.none) (left_broken _ s c.let_out-ticket-in-LastLeave.result (sym c.in-LastLeave.ensures.value) c.let_out-ticket-in-LastLeave.ensures.was (rw (← c.self.view_is, ← c.in-LastLeave.ensures.value) at c.requires.at).1 h2))
