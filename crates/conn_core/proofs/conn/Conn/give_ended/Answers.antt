use Rattle.std.proofs.Common.{sym}
use Rattle.conn_core.specs.declared.stage.Stage.TheVariants as at
use Rattle.conn_core.proofs.Served.{ended_in, fell}
use Rattle.conn_core.proofs.conn.Conn.give_ended.Goals as goal

pub returns-in-None-clause-next : goal.returns-in-None-clause-next
returns-in-None-clause-next g c = λ s h. let h2 = rw (← c.self.view_is) at h in (rw (c.in-Verdict.is, c.in-None.is) (c.outcome.ensures.next _ (ended_in _ s c.in-Finishing.id _ (sym c.in-Finishing.ensures.value) h2)))

pub returns-in-Some-clause-next : goal.returns-in-Some-clause-next
returns-in-Some-clause-next g c = λ s h. let h2 = rw (← c.self.view_is) at h in (rw (c.in-Verdict.is, c.in-Some.is) (c.outcome-in-Some.ensures.next _ (ended_in _ s c.in-Finishing.id _ (sym c.in-Finishing.ensures.value) h2)))

pub returns-in-NoMemory-clause-next : goal.returns-in-NoMemory-clause-next
returns-in-NoMemory-clause-next g c = λ s h. let h2 = rw (← c.self.view_is) at h in (rw (c.out_of_memory.ensures.next, c.in-NoMemory.is) (fell _ s (at.Finishing c.in-Finishing.id) (sym c.in-Finishing.ensures.value) (λ x. x) c.out_of_memory.ensures.none h2.stands))
