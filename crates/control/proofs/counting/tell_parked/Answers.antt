use Rattle.std.proofs.Common.{codes, ◌++◌, ◌∷◌, [], decimal}
use Rattle.control.proofs.Writing.{cut, then}
use Rattle.control.proofs.counting.tell_parked.Goals as goal

pub returns-in-All-clause-written : goal.returns-in-All-clause-written
returns-in-All-clause-written g c = then c.write_text.result _ _ _ (codes " parked " ++ decimal c.args.parked) (codes "\n") c.in-All.ensures.written c.write_text.ensures.written

pub returns-in-Failed-clause-written : goal.returns-in-Failed-clause-written
returns-in-Failed-clause-written g c = cut _ _ (codes " parked " ++ decimal c.args.parked) (codes "\n") c.in-Failed.ensures.written
