use Rattle.std.proofs.Common.{ap, length, arith}
use Rattle.spop_hello.proofs.Sizes.{hello_short}
use Rattle.spop_hello.proofs.frames.hello_frame.Goals as goal

pub append-requires : goal.append-requires
append-requires c = omega (arith, ap length c.in_ok-payload.ensures.is, hello_short c.args.terms.now (omega (arith, c.in_ok-payload.ensures.sized)))
