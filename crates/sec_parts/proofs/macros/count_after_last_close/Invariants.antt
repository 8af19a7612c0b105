use Rattle.std.proofs.Common.{◌≡◌, ◌≤◌, ◌-◌, length, drop, false}
use Rattle.std.specs.List.{list_any}
use Rattle.sec_parts.specs.Macros.{is_close}
use Rattle.sec_parts.proofs.macros.count_after_last_close.Given as goal

abbrev pub invariant-loop-count : goal.invariant-loop-count
invariant-loop-count l = record {
  none_yet : list_any is_close (drop (length l.text - l.count) l.text) ≡ false;
  within : l.count ≤ length l.text;
}

abbrev pub decreases-loop-count : goal.decreases-loop-count
decreases-loop-count l = length l.text - l.count
