use Rattle.std.proofs.Common.{sym}
use Rattle.conn_core.specs.declared.stage.Stage.TheVariants as at
use Rattle.conn_core.proofs.Served.{retired, fell}
use Rattle.conn_core.proofs.conn.Conn.give_retired.Goals as goal

pub returns-then-memory-clause-next : goal.returns-then-memory-clause-next
returns-then-memory-clause-next g c = λ s h. let h2 = rw (← c.self.view_is) at h in (c.outcome.ensures.next _ (retired _ s _ (sym c.in-Retiring.ensures.value) h2))

pub returns-else-memory-clause-next : goal.returns-else-memory-clause-next
returns-else-memory-clause-next g c = λ s h. let h2 = rw (← c.self.view_is) at h in (rw c.out_of_memory.ensures.next (fell _ s (at.Retiring c.in-Retiring.id) (sym c.in-Retiring.ensures.value) (λ x. x) c.out_of_memory.ensures.none h2.stands))
