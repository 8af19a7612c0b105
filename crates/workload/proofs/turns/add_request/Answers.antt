use Rattle.std.proofs.Common.{ap, length, arith}
use Rattle.workload.proofs.Sizes.{request_some}
use Rattle.workload.proofs.turns.add_request.Goals as goal

pub nonzero_rem-cut : goal.nonzero_rem-cut
nonzero_rem-cut c = omega (arith, c.len.ensures, ap length c.in_ok-bytes.ensures, request_some c.args.turn.now)

pub split_at-requires : goal.split_at-requires
split_at-requires c = omega (arith, c.len.ensures, ap length c.as_slice.ensures, ap length c.in_ok-bytes.ensures, request_some c.args.turn.now)
