use Rattle.std.proofs.Common.{refl}
use Rattle.conn_core.proofs.Inner.{fallen_at, take_two}
use Rattle.conn_core.proofs.conn.Conn.take.Goals as goal

pub returns-in-Goodbye-clause-done : goal.returns-in-Goodbye-clause-done
returns-in-Goodbye-clause-done g c = λ more f h s p.
    let heard = rw c.in-Goodbye.is at h in
    c.write-in-Goodbye.ensures.next _ c.disconnect_bytes.ensures s (take_two c.args.self.now s f heard p)

pub returns-in-Hello-clause-done : goal.returns-in-Hello-clause-done
returns-in-Hello-clause-done g c = λ more f h s p.
    let heard = rw c.in-Hello.is at h in
    c.greet.ensures.next f heard s p

pub returns-in-Messages-clause-done : goal.returns-in-Messages-clause-done
returns-in-Messages-clause-done g c = λ more f h s p.
    let heard = rw c.in-Messages.is at h in
    c.notify.ensures.next f heard s p

pub returns-in-NoMemory-clause-done : goal.returns-in-NoMemory-clause-done
returns-in-NoMemory-clause-done g c = λ more f h s p.
    fallen_at f c.args.self.now _ s (rw c.out_of_memory.ensures.next refl) (rw c.out_of_memory.ensures.next refl) (rw c.out_of_memory.ensures.next refl) c.out_of_memory.ensures.none p
