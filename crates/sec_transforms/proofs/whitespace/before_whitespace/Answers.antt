use Rattle.std.proofs.Common.{sym, ◌∙◌}
use Rattle.sec_transforms.proofs.Trims.{white_back, stays_back, none_back}
use Rattle.sec_transforms.proofs.whitespace.before_whitespace.Goals as goal

pub loop-last-preserved : goal.loop-last-preserved
loop-last-preserved c =
    white_back c.loop-last.kept.now c.in-Some.front.now _ c.in-Some.last.now c.in-Some.ensures.cases.0 (sym c.is_white.ensures ∙ c.if-not-is_white.false) c.loop-last.invariant

pub returns-then-not-is_white : goal.returns-then-not-is_white
returns-then-not-is_white c =
    stays_back c.loop-last.kept.now c.in-Some.front.now _ c.in-Some.last.now c.in-Some.ensures.cases.0 (sym c.is_white.ensures ∙ c.if-not-is_white.true) c.loop-last.invariant

pub returns : goal.returns
returns c = none_back c.loop-last.kept.now _ c.in_default.ensures.cases c.loop-last.invariant
