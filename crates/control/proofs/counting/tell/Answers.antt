use Rattle.std.proofs.Common.{codes, ◌++◌, decimal}
use Rattle.control.proofs.Writing.{cut, then}
use Rattle.control.proofs.counting.tell.Goals as goal

pub returns-in-All-clause-written : goal.returns-in-All-clause-written
returns-in-All-clause-written g c =
    then c.tell_parked.result _ _ _ (codes "stats running " ++ decimal c.args.totals.running) (codes " parked " ++ decimal c.args.totals.parked ++ codes "\n") c.in-All.ensures.written c.tell_parked.ensures.written

pub returns-in-Failed-clause-written : goal.returns-in-Failed-clause-written
returns-in-Failed-clause-written g c =
    cut _ _ (codes "stats running " ++ decimal c.args.totals.running) (codes " parked " ++ decimal c.args.totals.parked ++ codes "\n") c.in-Failed.ensures.written
