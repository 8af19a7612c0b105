use Rattle.std.proofs.Common.{sym}
use Rattle.conn_core.proofs.Served.{retire_taken}
use Rattle.conn_core.proofs.conn.Conn.take_retire.Goals as goal

pub returns-clause-done : goal.returns-clause-done
returns-clause-done g c = λ s h. rw c.set.ensures (retire_taken _ s _ _ (sym c.in-Retire.ensures.value) (rw (← c.self.view_is) at h))
