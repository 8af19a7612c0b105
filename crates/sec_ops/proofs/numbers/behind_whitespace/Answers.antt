use Rattle.std.proofs.Common.{sym, ◌∙◌, arith}
use Rattle.sec_ops.proofs.Digits.{white_turn, white_stop, white_end}
use Rattle.sec_ops.proofs.numbers.behind_whitespace.Goals as goal

pub returns-then-not-is_whitespace : goal.returns-then-not-is_whitespace
returns-then-not-is_whitespace c =
    c.split_at.ensures.back ∙ white_stop c.args.text.now c.loop-index.index _ (omega arith) (sym c.is_whitespace.ensures ∙ c.if-not-is_whitespace.true) c.loop-index.invariant

pub loop-index-preserved : goal.loop-index-preserved
loop-index-preserved c = white_turn c.args.text.now c.loop-index.index _ (omega arith) (sym c.is_whitespace.ensures ∙ c.if-not-is_whitespace.false) c.loop-index.invariant

pub returns : goal.returns
returns c = white_end c.args.text.now c.loop-index.index _ (omega arith) c.loop-index.invariant
