use Rattle.std.proofs.Common.{◌≡◌, ◌≤◌, ◌+◌, length, take}
use Rattle.std.specs.List.{suffix_len}
use Rattle.sec_text.specs.Margins.{in_margin}
use Rattle.sec_text.proofs.margins.trim_end.Given as goal

abbrev pub invariant-loop-count : goal.invariant-loop-count
invariant-loop-count l = record {
  counted : l.count + suffix_len (in_margin l.margin) l.text ≡ length l.text + suffix_len (in_margin l.margin) (take l.count l.text);
  within : l.count ≤ length l.text;
}

abbrev pub decreases-loop-count : goal.decreases-loop-count
decreases-loop-count l = l.count
