use Rattle.std.proofs.Common.{◌≡◌}
use Rattle.std.specs.Prelude.{map, take}
use Rattle.sec_read.specs.Names.{beside}
use Rattle.agent_conf.proofs.loading.apps.names_beside.Given as goal

abbrev pub invariant-loop-word : goal.invariant-loop-word
invariant-loop-word l = l.names ≡ map (beside l.conf) (take l.word-index l.words)
