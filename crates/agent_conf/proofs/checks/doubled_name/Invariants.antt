use Rattle.std.proofs.Common.{◌≡◌, [], drop, take}
use Rattle.agent_conf.specs.Applications.{doubled, names}
use Rattle.agent_conf.specs.Reading.{first}
use Rattle.agent_conf.proofs.checks.doubled_name.Given as goal

abbrev pub invariant-loop-at : goal.invariant-loop-at
invariant-loop-at l = first (doubled (names (take l.at l.apps)) (names (drop l.at l.apps))) ≡ first (doubled [] (names l.apps))
