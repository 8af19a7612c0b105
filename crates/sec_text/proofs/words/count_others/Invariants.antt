use Rattle.std.proofs.Common.{◌≡◌, ◌≤◌, ◌+◌, ◌-◌, length, drop}
use Rattle.std.specs.Prelude.{not}
use Rattle.std.specs.List.{prefix_len}
use Rattle.sec_text.specs.Quotes.{is_blank}
use Rattle.sec_text.proofs.words.count_others.Given as goal

abbrev pub invariant-loop-count : goal.invariant-loop-count
invariant-loop-count l = record {
  counted : l.count + prefix_len (λ b. not (is_blank b)) (drop l.count l.bytes) ≡ prefix_len (λ b. not (is_blank b)) l.bytes;
  within : l.count ≤ length l.bytes;
}

abbrev pub decreases-loop-count : goal.decreases-loop-count
decreases-loop-count l = length l.bytes - l.count
