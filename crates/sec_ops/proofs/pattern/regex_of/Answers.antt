use Rattle.std.proofs.Common.{rules, refl}
use Rattle.sec_ops.proofs.PatternLemmas.{reading, no_reading}
use Rattle.sec_ops.proofs.pattern.regex_of.Goals as goal

pub returns-in-Ok-clause-has_reading : goal.returns-in-Ok-clause-has_reading
returns-in-Ok-clause-has_reading c =
    let made = c.in-Ok.ensures in
    let x = reading c.in-Ok.regex c.args.source.now (search rules) (search rules) made.read in
    rw x.1 refl

pub returns-in-Err-Syntax-clause-bad : goal.returns-in-Err-Syntax-clause-bad
returns-in-Err-Syntax-clause-bad c =
    let e = c.in-Err-Syntax.ensures in
    λ _. no_reading c.args.source.now c.in-Err-Syntax.field-0-0.kind (search rules) (search rules)
