use Rattle.std.proofs.Common.{◌∙◌}
use Rattle.ip_set.proofs.Words.{cut_at, some_slash}
use Rattle.ip_set.proofs.block.cut.Goals as goal

pub returns-in_default-clause-only : goal.returns-in_default-clause-only
returns-in_default-clause-only c = λ a b none e. some_slash c.args.word.now a b e c.in_default.ensures

pub returns-clause-only : goal.returns-clause-only
returns-clause-only c = λ a b none e.
    let both = cut_at c.args.word.now a b c.in-Some.at e none c.in-Some.ensures in
    (c.split_at.ensures.front ∙ both.0, c.split_at-2.ensures.back ∙ both.1)
