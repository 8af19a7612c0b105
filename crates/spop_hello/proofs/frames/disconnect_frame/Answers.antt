use Rattle.std.proofs.Common.{ap, length, arith}
use Rattle.spop_hello.proofs.Sizes.{disconnect_short}
use Rattle.spop_hello.proofs.frames.disconnect_frame.Goals as goal

pub append-requires : goal.append-requires
append-requires c = omega (arith, ap length c.in_ok-payload.ensures, disconnect_short c.args.status (omega (arith, c.ranges.status.fits)))
