use Rattle.control.proofs.Writing.{cut, then}
use Rattle.control.proofs.parts.write_both.Goals as goal

pub returns-in-All-clause-written : goal.returns-in-All-clause-written
returns-in-All-clause-written g c = then c.write_text-in-All.result _ _ _ c.args.first.now c.args.second.now c.in-All.ensures.written c.write_text-in-All.ensures.written

pub returns-in-Failed-clause-written : goal.returns-in-Failed-clause-written
returns-in-Failed-clause-written g c = cut _ _ c.args.first.now c.args.second.now c.in-Failed.ensures.written
