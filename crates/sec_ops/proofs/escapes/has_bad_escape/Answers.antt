use Rattle.std.proofs.Common.{sym, ◌∙◌}
use Rattle.sec_ops.proofs.Texts.{bad_here, bad_later, bad_never}
use Rattle.sec_ops.proofs.escapes.has_bad_escape.Goals as goal

pub returns-then-is_bad : goal.returns-then-is_bad
returns-then-is_bad c = bad_here c.loop-first.rest.now c.in-Some.behind.now c.in-Some.first.now _ c.in-Some.ensures.cases.0 (sym c.is_bad.ensures ∙ c.if-is_bad.true) c.loop-first.invariant

pub loop-first-preserved : goal.loop-first-preserved
loop-first-preserved c = bad_later c.loop-first.rest.now c.in-Some.behind.now c.in-Some.first.now _ c.in-Some.ensures.cases.0 (sym c.is_bad.ensures ∙ c.if-is_bad.false) c.loop-first.invariant

pub returns : goal.returns
returns c = bad_never c.loop-first.rest.now _ c.in_default.ensures.cases c.loop-first.invariant
