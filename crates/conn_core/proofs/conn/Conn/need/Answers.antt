use Rattle.std.proofs.Common.{refl}
use Rattle.conn_core.proofs.Served.{waits_for_bytes}
use Rattle.conn_core.proofs.conn.Conn.need.Goals as goal

pub returns-in-Bytes-clause-bytes : goal.returns-in-Bytes-clause-bytes
returns-in-Bytes-clause-bytes g c = λ s h e. waits_for_bytes c.args.self.now s h (rw (← c.self.view_is, c.in-Bytes.is) refl)
