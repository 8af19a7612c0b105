use Rattle.std.proofs.Common.{◌≡◌, take}
use Rattle.agent_main.specs.Summary.{logged_in, sum_of}
use Rattle.agent_main.proofs.summary.logged.Given as goal

abbrev pub invariant-loop-entry : goal.invariant-loop-entry
invariant-loop-entry l = l.sum ≡ sum_of (logged_in l.rule) (take l.entry-index l.entries)
