use Rattle.std.proofs.Common.{ap, arith}
use Rattle.sec_parts.specs.Macros.{is_close}
use Rattle.sec_parts.proofs.MacroLaws.{tail_is}
use Rattle.sec_parts.proofs.macros.count_after_last_close.Goals as goal

pub returns-else-text-count-ne-CLOSING_BRACE-clause-tail : goal.returns-else-text-count-ne-CLOSING_BRACE-clause-tail
returns-else-text-count-ne-CLOSING_BRACE-clause-tail c =
    tail_is c.args.text.now c.loop-count.count c.loop-count.invariant.within c.loop-count.invariant.none_yet
    (λ _. ap is_close c.if-text-count-ne-CLOSING_BRACE.false)

pub returns-after-loop-count-clause-tail : goal.returns-after-loop-count-clause-tail
returns-after-loop-count-clause-tail c =
    tail_is c.args.text.now c.loop-count.count c.loop-count.invariant.within c.loop-count.invariant.none_yet
    (λ some. absurd (omega (arith, some, c.loop-count-test.false)))
