use Rattle.std.proofs.Common.{sym, ◌∙◌, arith}
use Rattle.sec_transforms.proofs.Trims.{white_turn, white_stop, white_end}
use Rattle.sec_transforms.proofs.whitespace.behind_whitespace.Goals as goal

pub returns-then-not-is_white : goal.returns-then-not-is_white
returns-then-not-is_white c =
    c.split_at.ensures.back ∙ white_stop c.args.text.now c.loop-index.index _ (omega arith) (sym c.is_white.ensures ∙ c.if-not-is_white.true) c.loop-index.invariant

pub loop-index-preserved : goal.loop-index-preserved
loop-index-preserved c = white_turn c.args.text.now c.loop-index.index _ (omega arith) (sym c.is_white.ensures ∙ c.if-not-is_white.false) c.loop-index.invariant

pub returns : goal.returns
returns c = white_end c.args.text.now c.loop-index.index _ (omega arith) c.loop-index.invariant
