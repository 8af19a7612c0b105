use Rattle.std.proofs.Common.{refl}
use Rattle.conn_core.proofs.Inner.{fallen}
use Rattle.conn_core.proofs.conn.Conn.ask.Goals as goal

pub returns-in-Err-clause-next : goal.returns-in-Err-clause-next
returns-in-Err-clause-next g c = λ s p. fallen _ _ s (rw c.out_of_memory.ensures.next refl) (rw c.out_of_memory.ensures.next refl) (rw c.out_of_memory.ensures.next refl) c.out_of_memory.ensures.none p
