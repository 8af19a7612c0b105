use Rattle.std.proofs.Common.{◌≡◌, drop}
use Rattle.agent_conf.specs.Applications.{names}
use Rattle.agent_conf.specs.Keys.{is_among}
use Rattle.agent_conf.proofs.checks.is_named.Given as goal

abbrev pub invariant-loop-app : goal.invariant-loop-app
invariant-loop-app l = is_among (names (drop l.app-index l.apps)) l.name ≡ is_among (names l.apps) l.name
