use Rattle.std.proofs.Common.{◌≡◌, ◌++◌}
use Rattle.workload.specs.Turns.{acts}
use Rattle.workload.proofs.turns.add_acts.Given as goal

abbrev pub invariant-loop : goal.invariant-loop
invariant-loop l = l.commands ≡ l.fn.commands ++ acts l.counter l.conn
