use Rattle.workload.proofs.Playable.{script_playable}
use Rattle.workload.proofs.law.scripts_are_playable.Goals as goal

pub returns : goal.returns
returns c = script_playable
