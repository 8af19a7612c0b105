use Rattle.std.proofs.Common.{◌≡◌, ◌<◌, ◌^◌, drop}
use Rattle.std.specs.List.{fold}
use Rattle.sec_decoders.specs.Digits.{next, number_in}
use Rattle.sec_decoders.proofs.css.short_number.Given as goal

abbrev pub invariant-loop-digit : goal.invariant-loop-digit
invariant-loop-digit l = record {
  small : l.sum < 16 ^ l.digit-index;
  left : fold (next 16) l.sum (drop l.digit-index l.digits) ≡ number_in 16 l.digits;
}
