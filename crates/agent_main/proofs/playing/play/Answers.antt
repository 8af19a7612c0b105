use Rattle.std.proofs.Common.{refl, subst}
use Rattle.agent_main.specs.declared.playing.Plan as planning
use Rattle.agent_main.specs.Playing.{IsPlan}
use Rattle.agent_main.specs.Turns.{kept, made}
use Rattle.agent_main.proofs.playing.play.Goals as goal

pub step-requires : goal.step-requires
step-requires g c =
    let is = subst (λ (p : planning.Plan). IsPlan (g.F.Files.content c.args.files.now) c.args.name.now c.args.command.now p) c.in-Step.is c.in_ok-step.ensures.plan in
    c.requires c.in-Step.step is

pub returns-in_ok-step-in-Step-clause-turn : goal.returns-in_ok-step-in-Step-clause-turn
returns-in_ok-step-in-Step-clause-turn g c = record {
  turn = made c.in-Step.step c.in_ok-step-in-Step.field-0;
  is_turn = subst (λ (p : planning.Plan). IsPlan (g.F.Files.content c.args.files.now) c.args.name.now c.args.command.now p) c.in-Step.is c.in_ok-step.ensures.plan;
  turns = c.in_ok-step-in-Step.ensures;
  shown_is = refl;
}

pub returns-in-Kept-clause-turn : goal.returns-in-Kept-clause-turn
returns-in-Kept-clause-turn g c = record {
  turn = kept c.in-Kept.fault;
  is_turn = subst (λ (p : planning.Plan). IsPlan (g.F.Files.content c.args.files.now) c.args.name.now c.args.command.now p) c.in-Kept.is c.in_ok-step.ensures.plan;
  turns = refl;
  shown_is = refl;
}
