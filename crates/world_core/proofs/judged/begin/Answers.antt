use Rattle.std.proofs.Common.{subst}
use Rattle.std.specs.Arc.{arc_value}
use Rattle.tx_core.specs.Halves.{BeginsAs}
use Rattle.world_core.specs.Begun.{begun_by}
use Rattle.world_core.specs.declared.begun.JudgeBegun.TheVariants.{Goes}
use Rattle.world_core.specs.World.{Rules}
use Rattle.world_core.proofs.judged.begin.Goals as goal

pub returns-in-Goes : goal.returns-in-Goes
returns-in-Goes g c =
    let rules : Rules = (c.rules.inside.generation, arc_value c.rules.inside.handle) in
    let goes = subst (λ b. BeginsAs rules.1 rules.0 c.args.request (begun_by g.J.Judge.half b)) c.in-Goes.is c.in_ok-verdict.ensures in
    subst (λ (r : Rules). BeginsAs r.1 r.0 c.args.request (begun_by g.J.Judge.half (Goes c.in-Goes.half c.in-Goes.lines))) c.rules.view_is goes
