use Rattle.std.proofs.Common.{◌≤◌, ◌-◌, length}
use Rattle.sec_decoders.specs.Pieces.{KeepsFront}
use Rattle.sec_transforms.specs.Whitespace.{run}
use Rattle.sec_transforms.proofs.whitespace.spaced_len.Given as goal

abbrev pub invariant-loop-count : goal.invariant-loop-count
invariant-loop-count l = record {
  within : l.count ≤ length l.text;
  kept : KeepsFront run l.count l.text;
}

abbrev pub decreases-loop-count : goal.decreases-loop-count
decreases-loop-count l = length l.text - l.count
