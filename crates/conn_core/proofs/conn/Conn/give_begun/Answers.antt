use Rattle.std.proofs.Common.{sym, ◌∙◌}
use Rattle.conn_core.specs.declared.stage.Stage.TheVariants as at
use Rattle.conn_core.proofs.Inner.{none_is}
use Rattle.conn_core.proofs.Served.{interrupted_in, interrupted_alone, goes_in, goes_alone, fell, fell_in}
use Rattle.conn_core.proofs.conn.Conn.give_begun.Goals as goal

pub returns-then-is_held-clause-next : goal.returns-then-is_held-clause-next
returns-then-is_held-clause-next g c = λ s h. let h2 = rw (← c.self.view_is) at h in (rw (c.set.ensures, c.in-Interrupted.is) (interrupted_in _ s c.in-Begun.id c.in-Interrupted.verdict (sym c.in-Begun.ensures.value) h2))

pub returns-in-Interrupted-clause-next : goal.returns-in-Interrupted-clause-next
returns-in-Interrupted-clause-next g c = λ s h. let h2 = rw (← c.self.view_is) at h in (rw c.in-Interrupted.is (c.outcome.ensures.next _ (interrupted_alone _ s c.in-Begun.id c.in-Interrupted.verdict (sym c.in-Begun.ensures.value) (none_is _ (sym c.is_held.ensures ∙ c.if-is_held.false)) h2)))

pub returns-then-is_held-2-clause-next : goal.returns-then-is_held-2-clause-next
returns-then-is_held-2-clause-next g c = λ s h. let h2 = rw (← c.self.view_is) at h in (rw (c.set-then-is_held-2.ensures, c.in-Goes.is) (goes_in _ s c.in-Begun.id c.in-Goes.half (sym c.in-Begun.ensures.value) h2))

pub returns-in-Goes-clause-next : goal.returns-in-Goes-clause-next
returns-in-Goes-clause-next g c = λ s h. let h2 = rw (← c.self.view_is) at h in (rw (c.set-else-is_held-2.ensures, c.in-Goes.is) (goes_alone _ s c.in-Begun.id c.in-Goes.half (sym c.in-Begun.ensures.value) (none_is _ (sym c.is_held-in-Goes.ensures ∙ c.if-is_held-2.false)) h2))

pub returns-then-is_held-3-clause-next : goal.returns-then-is_held-3-clause-next
returns-then-is_held-3-clause-next g c = λ s h. let h2 = rw (← c.self.view_is) at h in (rw (c.set-then-is_held-3.ensures, c.in-NoMemory.is) (fell_in _ s c.in-Begun.id (sym c.in-Begun.ensures.value) h2.stands))

pub returns-in-Begun-clause-next : goal.returns-in-Begun-clause-next
returns-in-Begun-clause-next g c = λ s h. let h2 = rw (← c.self.view_is) at h in (rw (c.out_of_memory.ensures.next, c.in-NoMemory.is) (fell _ s (at.Begun c.in-Begun.id) (sym c.in-Begun.ensures.value) (λ x. x) c.out_of_memory.ensures.none h2.stands))
