use Rattle.std.proofs.Common.{sym}
use Rattle.conn_core.specs.declared.stage.Stage.TheVariants as at
use Rattle.conn_core.proofs.Inner.{none_is}
use Rattle.conn_core.proofs.Served.{looked_entry, looked_alone, looked_unknown, fell}
use Rattle.conn_core.proofs.conn.Conn.give_look.Goals as goal

pub returns-then-settings-clause-next : goal.returns-then-settings-clause-next
returns-then-settings-clause-next g c = λ s h. let h2 = rw (← c.self.view_is) at h in (rw (c.set.ensures, c.in-Found.is, ← c.self.view_is, ← c.in-Look.ensures.value) (looked_entry _ s c.in-Look.id c.in-Look.key c.in-Look.request c.in-Found.rules c.in-Found.settings (sym c.in-Look.ensures.value) c.if-settings.true h2))

pub returns-else-settings-clause-next : goal.returns-else-settings-clause-next
returns-else-settings-clause-next g c = λ s h. let h2 = rw (← c.self.view_is) at h in (rw (c.set-else-settings.ensures, c.in-Found.is, ← c.self.view_is, ← c.in-Look.ensures.value) (looked_alone _ s c.in-Look.id c.in-Look.key c.in-Look.request c.in-Found.rules c.in-Found.settings (sym c.in-Look.ensures.value) (none_is _ (rw (← c.in-Look.ensures.value) at c.self.invariant)) c.if-settings.false h2))

pub returns-in-UnknownApp-clause-next : goal.returns-in-UnknownApp-clause-next
returns-in-UnknownApp-clause-next g c = λ s h. let h2 = rw (← c.self.view_is) at h in (rw (c.in-UnknownApp.is, ← c.self.view_is, ← c.in-Look.ensures.value) (c.outcome.ensures.next _ (looked_unknown _ s c.in-Look.id c.in-Look.key c.in-Look.request (sym c.in-Look.ensures.value) h2)))

pub returns-in-NoMemory-clause-next : goal.returns-in-NoMemory-clause-next
returns-in-NoMemory-clause-next g c = λ s h. let h2 = rw (← c.self.view_is) at h in (rw (c.out_of_memory.ensures.next, c.in-NoMemory.is) (fell _ s (at.Look c.in-Look.id c.in-Look.key c.in-Look.request) (sym c.in-Look.ensures.value) (λ x. x) c.out_of_memory.ensures.none h2.stands))
