use Rattle.std.proofs.Common.{◌<◌, length, length-drop, ap, arith}
use Rattle.std.proofs.lemmas.Grind.{common_steps}
use Rattle.sec_text.specs.Quotes.{is_blank}
use Rattle.sec_parts.proofs.WordLaws.{some_before}
use Rattle.sec_parts.proofs.phrases.next_phrase.Goals as goal

pub returns-clause-shorter : goal.returns-clause-shorter
returns-clause-shorter c =
    let some : 0 < length c.trim_front-here.result.now = grind (arith, common_steps, c.if-is_empty.ensures) in
    let first = some_before is_blank c.args.text.now c.trim_front-here.result.now c.trim_front-here.ensures some in
    let within = simp length-drop at (ap length c.trim_front-here.ensures) in
    omega (arith, first, within, c.count_to_blank.ensures.count, c.split_at.ensures.back_len)
