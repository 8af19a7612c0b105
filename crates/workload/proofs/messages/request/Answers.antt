use Rattle.std.proofs.Common.{ap, length, arith}
use Rattle.workload.proofs.Sizes.{request_small}
use Rattle.workload.proofs.messages.request.Goals as goal

pub frame_of-requires : goal.frame_of-requires
frame_of-requires c = record { small = omega (arith, ap length c.in_ok-payload.ensures.payload, request_small c.args.turn.now c.in_ok-payload.ensures.fits) }
