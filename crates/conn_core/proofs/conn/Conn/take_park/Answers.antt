use Rattle.std.proofs.Common.{sym}
use Rattle.conn_core.proofs.Served.{parked}
use Rattle.conn_core.proofs.conn.Conn.take_park.Goals as goal

pub returns-clause-next : goal.returns-clause-next
returns-clause-next g c = λ s h. let h2 = rw (← c.self.view_is) at h in (c.outcome.ensures.next _ (rw c.let_out-ticket.ensures.none (parked _ s c.in-Park.id c.let_out-ticket.result c.in-Park.half (sym c.in-Park.ensures.value) c.let_out-ticket.ensures.was h2)))
