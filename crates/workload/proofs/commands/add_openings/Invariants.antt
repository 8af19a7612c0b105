use Rattle.std.proofs.Common.{◌≡◌, ◌++◌}
use Rattle.std.specs.List.{flat_map, range_with_len}
use Rattle.workload.specs.Workload.{opening}
use Rattle.workload.proofs.commands.add_openings.Given as goal

abbrev pub invariant-loop-conn : goal.invariant-loop-conn
invariant-loop-conn l = l.commands ≡ l.fn.commands ++ flat_map opening (range_with_len 0 l.conn)
