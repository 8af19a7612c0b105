use Rattle.std.proofs.Common.{arith}
use Rattle.sec_decoders.proofs.Numbers.{low_turn, low_end}
use Rattle.sec_decoders.proofs.digits.low_byte.Goals as goal

pub loop-digit-preserved : goal.loop-digit-preserved
loop-digit-preserved c = record {
  small = omega (arith, c.and_digit-sum.ensures);
  left = low_turn c.args.base c.loop-digit.sum c.and_digit-sum.result c.args.digits.now c.loop-digit.digit-index _ (omega arith) (rw c.digit_of.ensures.digit at c.and_digit-sum.ensures) c.loop-digit.invariant.left;
}

pub returns : goal.returns
returns c = low_end c.args.base c.loop-digit.sum c.args.digits.now c.loop-digit.digit-index _ c.loop-digit.invariant.small (omega arith) c.loop-digit.invariant.left
