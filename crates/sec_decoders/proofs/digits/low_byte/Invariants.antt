use Rattle.std.proofs.Common.{◌≡◌, ◌%◌, ◌<◌, drop}
use Rattle.std.specs.List.{fold}
use Rattle.sec_decoders.specs.Digits.{next, number_in}
use Rattle.sec_decoders.proofs.digits.low_byte.Given as goal

abbrev pub invariant-loop-digit : goal.invariant-loop-digit
invariant-loop-digit l = record {
  small : l.sum < 256;
  left : fold (next l.base) l.sum (drop l.digit-index l.digits) % 256 ≡ number_in l.base l.digits % 256;
}
