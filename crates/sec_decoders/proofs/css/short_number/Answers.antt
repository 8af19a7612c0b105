use Rattle.std.proofs.Common.{arith}
use Rattle.sec_decoders.proofs.Numbers.{short}
use Rattle.sec_decoders.proofs.css.short_number.Goals as goal

pub overflow_mul-sum : goal.overflow_mul-sum
overflow_mul-sum c =
    let few = short c.loop-digit.sum c.loop-digit.digit-index c.loop-digit.invariant.small (omega arith) in omega (arith, few)

pub overflow_add-sum : goal.overflow_add-sum
overflow_add-sum c =
    let few = short c.loop-digit.sum c.loop-digit.digit-index c.loop-digit.invariant.small (omega arith) in
    omega (arith, few, c.from.ensures, c.digit_of.ensures.small)
