use Rattle.std.proofs.Common.{sym}
use Rattle.conn_core.proofs.Served.{key_taken, claim_taken}
use Rattle.conn_core.proofs.conn.Conn.take_key.Goals as goal

pub returns-in-Enter-clause-entered : goal.returns-in-Enter-clause-entered
returns-in-Enter-clause-entered g c = λ f s h. rw c.set.ensures (key_taken _ s c.in-Enter.id c.in-Enter.key c.in-Enter.request c.in-Enter.rules c.in-Enter.life (sym c.in-Enter.ensures.value) (rw (← c.self.view_is) at h))

pub returns-in-Resume-clause-resumed : goal.returns-in-Resume-clause-resumed
returns-in-Resume-clause-resumed g c = λ f s h. rw c.set-in-Resume.ensures (claim_taken _ s c.in-Resume.id c.in-Resume.key c.in-Resume.response (sym c.in-Resume.ensures.value) (rw (← c.self.view_is) at h))
