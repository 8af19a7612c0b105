use Rattle.std.proofs.Common.{arith}
use Rattle.spop_hello.proofs.frames.hello_payload.Goals as goal

pub returns-clause-sized : goal.returns-clause-sized
returns-clause-sized c = omega (arith, c.put_number.ensures.fits)
