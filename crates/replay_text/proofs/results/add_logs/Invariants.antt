use Rattle.std.proofs.Common.{◌≡◌, ◌++◌, take}
use Rattle.std.specs.List.{flat_map}
use Rattle.replay_text.specs.Results.{log_line}
use Rattle.replay_text.proofs.results.add_logs.Given as goal

abbrev pub invariant-loop-log : goal.invariant-loop-log
invariant-loop-log l = l.text ≡ l.fn.text ++ flat_map (log_line l.conn) (take l.log-index l.logs)
