use Rattle.std.proofs.Common.{◌≡◌, ◌≤◌, ◌+◌, ◌-◌, length, drop}
use Rattle.std.specs.List.{prefix_len}
use Rattle.sec_text.specs.Margins.{in_margin}
use Rattle.sec_text.proofs.margins.trim_start.Given as goal

abbrev pub invariant-loop-count : goal.invariant-loop-count
invariant-loop-count l = record {
  counted : l.count + prefix_len (in_margin l.margin) (drop l.count l.text) ≡ prefix_len (in_margin l.margin) l.text;
  within : l.count ≤ length l.text;
}

abbrev pub decreases-loop-count : goal.decreases-loop-count
decreases-loop-count l = length l.text - l.count
