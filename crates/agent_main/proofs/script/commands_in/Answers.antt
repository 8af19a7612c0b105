use Rattle.agent_main.proofs.Scripts.{known_plays}
use Rattle.agent_main.proofs.script.commands_in.Goals as goal

pub returns-in-Ok-clause-playable : goal.returns-in-Ok-clause-playable
returns-in-Ok-clause-playable c = known_plays c.args.shards c.args.text.now c.in-Ok.commands c.known.result c.in-Ok.ensures c.known.ensures.told
