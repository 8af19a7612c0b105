use Rattle.std.proofs.Common.{◌-◌, ◌≤◌, length}
use Rattle.std.specs.List.{All}
use Rattle.waf_io.specs.Tcp.{IsNewTcp}
use Rattle.waf_io.proofs.tcp_doors.doors_of.Given as goal

abbrev pub invariant-loop-doors : goal.invariant-loop-doors
invariant-loop-doors l = (length l.doors ≤ l.count) × All IsNewTcp l.doors

abbrev pub decreases-loop-doors : goal.decreases-loop-doors
decreases-loop-doors l = l.count - length l.doors
