use Rattle.std.proofs.Common.{◌≡◌, ◌≤◌, ◌^◌, min, drop}
use Rattle.sec_ops.specs.Number.{digits_number}
use Rattle.sec_ops.proofs.Digits.{counted}
use Rattle.sec_ops.proofs.numbers.magnitude.Given as goal

abbrev pub invariant-loop-byte : goal.invariant-loop-byte
invariant-loop-byte l = record {
  small : l.sum ≤ 2 ^ 63;
  left : min (counted l.sum (drop l.byte-index l.text)) (2 ^ 63) ≡ min (digits_number l.text) (2 ^ 63);
}
