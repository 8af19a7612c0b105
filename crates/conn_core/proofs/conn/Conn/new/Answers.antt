use Rattle.std.proofs.Common.{ap}
use Rattle.spop_frame.specs.Held as framer
use Rattle.conn_core.proofs.Served.{opened}
use Rattle.conn_core.proofs.conn.Conn.new.Goals as goal

pub returns-clause-stands : goal.returns-clause-stands
returns-clause-stands g c = opened c.args.size _ _ _ _ _ (ap (λ (h : framer.Held). h.bytes) c.new-2.ensures)
