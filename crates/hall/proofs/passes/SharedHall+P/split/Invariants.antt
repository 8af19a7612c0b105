use Rattle.std.proofs.Common.{◌≡◌, vec_capacity}
use Rattle.hall.proofs.Splitting.{Halved}
use Rattle.hall.proofs.passes.SharedHall+P.split.Given as goal

abbrev pub invariant-loop-shard : goal.invariant-loop-shard
invariant-loop-shard g l = (vec_capacity l.seats ≡ vec_capacity l.initial.seats) × Halved l.self l.shard l.initial.pass.seats.items l.pass.seats.items l.seats.items
