use Rattle.std.proofs.Common.{rules, ◌≡◌, ◌∙◌, ap, sym}
use Rattle.command_line.specs.Words.{command_of}
use Rattle.agent_main.specs.Words.{serves_doors}
use Rattle.agent_main.proofs.Commands.{ran_as, ran_out, told_weaker}
use Rattle.agent_main.proofs.agent.agent_main.Goals as goal

pub returns-in-Ok : goal.returns-in-Ok
returns-in-Ok g c = let same : c.in-Ok.command ≡ command_of c.args.words = search rules in record {
  offline = λ is. ran_as _ _ _ _ _ _ same (c.perform.ensures.offline (ap serves_doors same ∙ is));
  refused = told_weaker (g.F.Files.content c.args.files.now) _ _ (λ told f name fault is refused. f name fault (same ∙ is) refused) c.perform.ensures.refused;
  out = c.perform.ensures.out;
  read_fault = c.perform.ensures.read_fault;
  write_fault = c.perform.ensures.write_fault;
  door_fault = λ fails. (let f = c.perform.ensures.door_fault fails in (ap serves_doors (sym same) ∙ f.0, f.1));
}

pub returns-clause-offline : goal.returns-clause-offline
returns-clause-offline g c = λ is. ran_out _ _ _
