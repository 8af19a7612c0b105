use Rattle.std.proofs.Common.{sym, ◌∙◌, arith}
use Rattle.sec_ops.proofs.Digits.{digit_turn}
use Rattle.sec_ops.proofs.numbers.magnitude.Goals as goal

pub loop-byte-preserved : goal.loop-byte-preserved
loop-byte-preserved c = record {
  small = omega (arith, c.and_digit-sum.ensures);
  left = digit_turn c.loop-byte.sum c.and_digit-sum.result c.args.text.now c.loop-byte.byte-index _ (omega arith) (sym c.is_digit.ensures ∙ c.if-not-is_digit.false) c.and_digit-sum.ensures c.loop-byte.invariant.left;
}
