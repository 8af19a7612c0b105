use Rattle.std.proofs.Common.{refl, rules, subst, sym}
use Rattle.control.specs.Turns.{counted}
use Rattle.control.specs.Written.{Obeyed}
use Rattle.control.proofs.Reloads.{rose_none}
use Rattle.conn_worker.specs.Desk.{passes}
use Rattle.control.proofs.obeying.obey.Goals as goal

pub returns-in-Stats-clause-obeyed : goal.returns-in-Stats-clause-obeyed
returns-in-Stats-clause-obeyed g c =
    subst (λ o. Obeyed (g.F.Files.content c.args.files.now) c.args.name.now o c.stats.result (passes c.args.desk_pass.now c.args.rules_pass.now) (passes c.stats.new.pass c.args.rules_pass.now)
    (g.K.Sink.held c.args.output.now) (g.K.Sink.held c.stats.new.output) (g.F.Files.faults c.args.files.now) (g.F.Files.faults c.args.files.now)) (sym c.in-Stats.is) (record {
      turn = counted c.stats.ensures.stats.counts;
      comes = tt;
      made = (refl, c.stats.ensures.stats.counted);
      written = c.stats.ensures.stats.written;
      reads = rose_none _ _ (search rules);
    })
