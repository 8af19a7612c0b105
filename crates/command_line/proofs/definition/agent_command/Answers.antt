use Rattle.std.proofs.lemmas.Result.{IfOk-weaker}
use Rattle.command_line.proofs.Building.{grown}
use Rattle.command_line.proofs.definition.agent_command.Goals as goal

pub returns : goal.returns
returns c =
    let one = grown _ _ _ _ _ c.in_ok-subcommand.ensures c.in_ok-check_command.ensures.local c.empty_command.ensures.shape c.in_ok-check_command.ensures.shape in
    let two = grown _ _ _ _ _ c.in_ok-subcommand-2.ensures c.in_ok-once_command.ensures.local one c.in_ok-once_command.ensures.shape in
    let three = grown _ _ _ _ _ c.in_ok-subcommand-3.ensures c.in_ok-replay_command.ensures.local two c.in_ok-replay_command.ensures.shape in
    let four = grown _ _ _ _ _ c.in_ok-subcommand-4.ensures c.in_ok-generate_command.ensures.local three c.in_ok-generate_command.ensures.shape in
    record {
      shape = IfOk-weaker c.subcommand-5.result _ _
          (λ new adds. grown _ _ _ _ _ adds c.in_ok-serve_command.ensures.local four c.in_ok-serve_command.ensures.shape) c.subcommand-5.ensures;
    }
