use Rattle.std.proofs.Common.{ap, length, arith}
use Rattle.workload.proofs.Sizes.{hello_small}
use Rattle.workload.proofs.messages.hello.Goals as goal

pub frame_of-requires : goal.frame_of-requires
frame_of-requires c = record { small = omega (arith, ap length c.in_ok-payload.ensures, hello_small) }
