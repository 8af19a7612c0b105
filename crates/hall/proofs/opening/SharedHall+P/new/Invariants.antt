use Rattle.std.proofs.Common.{◌≡◌, vec_capacity}
use Rattle.hall.proofs.Opened.{Opened}
use Rattle.hall.proofs.opening.SharedHall+P.new.Given as goal

abbrev pub invariant-loop-shard : goal.invariant-loop-shard
invariant-loop-shard g l = (vec_capacity l.locks ≡ vec_capacity l.initial.locks) × (vec_capacity l.seats ≡ vec_capacity l.initial.seats)
    × Opened l.capacity l.shard l.locks.items l.seats.items
