use Rattle.std.proofs.Common.{◌≡◌, drop}
use Rattle.std.specs.List.{list_any}
use Rattle.sec_ops.specs.Ranges.{is_in_range}
use Rattle.sec_ops.proofs.ranges.is_in_some.Given as goal

abbrev pub invariant-loop-range : goal.invariant-loop-range
invariant-loop-range l = list_any (is_in_range l.byte) (drop l.range-index l.ranges) ≡ list_any (is_in_range l.byte) l.ranges
