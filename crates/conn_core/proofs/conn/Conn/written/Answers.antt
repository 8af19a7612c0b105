use Rattle.std.proofs.Common.{sym}
use Rattle.conn_core.proofs.Served.{last_written, written_on}
use Rattle.conn_core.proofs.conn.Conn.written.Goals as goal

pub returns-in-Write-clause-next : goal.returns-in-Write-clause-next
returns-in-Write-clause-next g c = λ s h. let h2 = rw (← c.self.view_is) at h in (rw (← c.self.view_is, ← c.in-Write.ensures.value) (c.follow.ensures.next _ (written_on _ s c.in-Write.bytes c.in-Write.then (sym c.in-Write.ensures.value) h2)))

pub returns-in-LastWrite-clause-next : goal.returns-in-LastWrite-clause-next
returns-in-LastWrite-clause-next g c = λ s h.
    let h2 = rw (← c.self.view_is) at h in
    let broken = (rw (← c.self.view_is, ← c.in-LastWrite.ensures.value) at c.requires.at).1 in
    (rw (← c.self.view_is, ← c.in-LastWrite.ensures.value, c.set.ensures) (last_written _ s (sym c.in-LastWrite.ensures.value) broken h2))
