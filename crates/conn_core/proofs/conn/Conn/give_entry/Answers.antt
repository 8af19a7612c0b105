use Rattle.std.proofs.Common.{sym}
use Rattle.spop_web.specs.declared.answer.AckError.TheVariants as errors
use Rattle.conn_core.proofs.Inner.{none_is}
use Rattle.conn_core.proofs.Served.{entered_in, entry_refused}
use Rattle.conn_core.proofs.conn.Conn.give_entry.Goals as goal

pub returns-in-Entered-clause-next : goal.returns-in-Entered-clause-next
returns-in-Entered-clause-next g c = λ s h. let h2 = rw (← c.self.view_is) at h in (rw (c.set.ensures, c.put.ensures, c.in-Entered.is) (entered_in _ s c.in-Entering.id c.in-Entering.request c.in-Entering.rules c.in-Entering.life c.in-Entered.ticket (sym c.in-Entering.ensures.value) (none_is _ (rw (← c.in-Entering.ensures.value) at c.self.invariant)) h2))

pub returns-in-IdInUse-clause-next : goal.returns-in-IdInUse-clause-next
returns-in-IdInUse-clause-next g c = λ s h. let h2 = rw (← c.self.view_is) at h in (rw c.in-IdInUse.is (c.outcome.ensures.next _ (entry_refused _ s c.in-Entering.id c.in-Entering.request c.in-Entering.rules c.in-Entering.life errors.IdInUse (sym c.in-Entering.ensures.value) h2)))

pub returns-in-Full-clause-next : goal.returns-in-Full-clause-next
returns-in-Full-clause-next g c = λ s h. let h2 = rw (← c.self.view_is) at h in (rw c.in-Full.is (c.outcome-in-Full.ensures.next _ (entry_refused _ s c.in-Entering.id c.in-Entering.request c.in-Entering.rules c.in-Entering.life errors.TableFull (sym c.in-Entering.ensures.value) h2)))

pub returns-in-Worn-clause-next : goal.returns-in-Worn-clause-next
returns-in-Worn-clause-next g c = λ s h. let h2 = rw (← c.self.view_is) at h in (rw c.in-Worn.is (c.outcome-in-Worn.ensures.next _ (entry_refused _ s c.in-Entering.id c.in-Entering.request c.in-Entering.rules c.in-Entering.life errors.Worn (sym c.in-Entering.ensures.value) h2)))
