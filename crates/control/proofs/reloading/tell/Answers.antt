use Rattle.std.proofs.Common.{codes, ◌++◌, decimal, subst, sym}
use Rattle.control.specs.Turns.{publish_text}
use Rattle.control.specs.Written.{IsWritten}
use Rattle.reports.specs.Report.{AddsPrefix}
use Rattle.control.proofs.Writing.{cut, then}
use Rattle.control.proofs.reloading.tell.Goals as goal

pub returns-in-All-clause-written : goal.returns-in-All-clause-written
returns-in-All-clause-written g c =
    subst (λ p. IsWritten c.write_text-in-All.result (publish_text p) (g.K.Sink.held c.args.output.now) (g.K.Sink.held c.write_text-in-All.new.output)) (sym c.in-Generation.is)
    (then c.write_text-in-All.result _ _ _ (codes "published " ++ decimal c.in-Generation.generation) (codes "\n") c.in-All.ensures.written c.write_text-in-All.ensures.written)

pub returns-in-Failed-clause-written : goal.returns-in-Failed-clause-written
returns-in-Failed-clause-written g c =
    subst (λ p. AddsPrefix (g.K.Sink.held c.args.output.now) (publish_text p) (g.K.Sink.held c.write_number.new.output)) (sym c.in-Generation.is)
    (cut _ _ (codes "published " ++ decimal c.in-Generation.generation) (codes "\n") c.in-Failed.ensures.written)
