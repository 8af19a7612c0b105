use Rattle.std.proofs.Common.{sym, ◌∙◌}
use Rattle.sec_ops.proofs.Meanings.{compiled, readable, unreadable}
use Rattle.sec_ops.proofs.Texts.{no_text}
use Rattle.sec_ops.proofs.built.pattern_test.Goals as goal

pub returns-in_default-clause-bad : goal.returns-in_default-clause-bad
returns-in_default-clause-bad c = λ _. unreadable c.args.source.now (sym (no_text c.args.source.now c.in_default.ensures.cases.0))

pub returns-in-Ok-compile-clause-ok : goal.returns-in-Ok-compile-clause-ok
returns-in-Ok-compile-clause-ok c =
    let text = c.in-Ok.ensures.cases in
    let made = c.in-Ok-compile.ensures in
    λ _ value bytes. compiled c.in-Ok-compile.pattern.regex c.args.source.now value (made.source ∙ text.0) made.config made.read text.1 bytes

pub returns-in-Ok-compile-clause-read : goal.returns-in-Ok-compile-clause-read
returns-in-Ok-compile-clause-read c =
    let text = c.in-Ok.ensures.cases in
    let made = c.in-Ok-compile.ensures in
    readable c.args.source.now text.1 (rw text.0 at made.has_reading)
