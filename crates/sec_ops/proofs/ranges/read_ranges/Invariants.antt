use Rattle.std.proofs.Common.{◌≡◌, map, take}
use Rattle.sec_ops.specs.Ranges.{range_of}
use Rattle.sec_ops.proofs.ranges.read_ranges.Given as goal

abbrev pub invariant-loop-word : goal.invariant-loop-word
invariant-loop-word l = l.ranges ≡ map range_of (take l.word-index l.word-items)
