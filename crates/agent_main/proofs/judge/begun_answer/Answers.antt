use Rattle.std.specs.Arc.{arc_value}
use Rattle.agent_main.proofs.Telling.{interruption, passage}
use Rattle.agent_main.proofs.judge.begun_answer.Goals as goal

pub returns-in-Ok-Interrupted : goal.returns-in-Ok-Interrupted
returns-in-Ok-Interrupted c =
    interruption (arc_value c.args.rules.now) c.args.request c.in-Ok-Interrupted.field-0 c.in-Ok-Interrupted.verdict _ c.in-Ok-Interrupted.field-0-is c.in-Ok-Interrupted.ensures

pub returns-in-Ok-Goes : goal.returns-in-Ok-Goes
returns-in-Ok-Goes c =
    passage (arc_value c.args.rules.now) c.args.request c.in-Ok-Goes.field-0 c.in-Ok-Goes.half _ c.in-Ok-Goes.field-0-is c.in-Ok-Goes.ensures
