use Rattle.std.proofs.Common.{◌≡◌, ◌++◌, drop, map}
use Rattle.std.specs.Arc.{arc_value}
use Rattle.agent_conf.specs.Seen.{app_seen}
use Rattle.agent_main.specs.Check.{apps_text}
use Rattle.agent_main.proofs.check.apps_text.Given as goal

abbrev pub invariant-loop-app : goal.invariant-loop-app
invariant-loop-app l = l.text ++ apps_text (map (app_seen arc_value) (drop l.app-index l.apps)) ≡ apps_text (map (app_seen arc_value) l.apps)
