use Rattle.hall.proofs.Joining.{Woven}
use Rattle.hall.proofs.passes.SharedHall+P.join.Given as goal

abbrev pub invariant-loop-seat : goal.invariant-loop-seat
invariant-loop-seat g l = Woven l.self l.initial.pass.seats.items l.initial.seats.items l.seats.items l.pass.seats.items

abbrev pub decreases-loop-seat : goal.decreases-loop-seat
decreases-loop-seat g l = goal.left-loop-seat g l
