use Rattle.std.proofs.Common.{◌∙◌, sym, ap, Some, None}
use Rattle.std.specs.Option.{option_map}
use Rattle.replay_text.proofs.Lines.{first_line}
use Rattle.replay_text.proofs.script.split_line.Goals as goal

pub returns-in-Some-clause-first : goal.returns-in-Some-clause-first
returns-in-Some-clause-first c = λ some.
    rw c.cut.ensures.before (first_line c.args.text.now (Some c.in-Some.behind.now) (sym c.cut.ensures.behind ∙ ap (option_map (λ t. t.now)) c.in-Some.is) some)

pub returns-in-None-clause-first : goal.returns-in-None-clause-first
returns-in-None-clause-first c = λ some.
    rw c.cut.ensures.before (first_line c.args.text.now None (sym c.cut.ensures.behind ∙ ap (option_map (λ t. t.now)) c.in-None.is) some)
