use Rattle.std.proofs.Common.{sym}
use Rattle.conn_core.proofs.Served.{begin_taken}
use Rattle.conn_core.proofs.conn.Conn.take_begin.Goals as goal

pub returns-clause-done : goal.returns-clause-done
returns-clause-done g c = λ s h. rw c.set.ensures (begin_taken _ s _ _ _ (sym c.in-Begin.ensures.value) (rw (← c.self.view_is) at h))
