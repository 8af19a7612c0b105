use Rattle.std.proofs.Common.{◌≡◌, take}
use Rattle.agent_main.specs.Summary.{written_in, sum_of}
use Rattle.agent_main.proofs.summary.written.Given as goal

abbrev pub invariant-loop-entry : goal.invariant-loop-entry
invariant-loop-entry l = l.sum ≡ sum_of written_in (take l.entry-index l.entries)
