use Rattle.std.proofs.Common.{◌∙◌, sym, ap}
use Rattle.spop_hello.specs.Items.{without_end}
use Rattle.spop_hello.proofs.Blanks.{end_more, end_here}
use Rattle.spop_hello.proofs.items.trimmed_end.Goals as goal

pub returns-then-last-ne-SPACE : goal.returns-then-last-ne-SPACE
returns-then-last-ne-SPACE c =
    let whole = c.in-Some.ensures.cases.0 in
    whole ∙ sym (end_here c.in-Some.more.now c.in-Some.last.now c.if-last-ne-SPACE.true) ∙ ap without_end (sym whole) ∙ c.loop-last.invariant

pub loop-last-preserved : goal.loop-last-preserved
loop-last-preserved c =
    sym (end_more c.in-Some.more.now c.in-Some.last.now c.if-last-ne-SPACE.false) ∙ ap without_end (sym c.in-Some.ensures.cases.0) ∙ c.loop-last.invariant
