use Rattle.std.proofs.Common.{◌≡◌, ◌<◌, length, arith}
use Rattle.std.proofs.lemmas.Grind.{common_steps}
use Rattle.sec_text.specs.Lines.{is_line_feed}
use Rattle.sec_text.proofs.Splitting.{whole_at, front_at}
use Rattle.sec_text.proofs.lines.split_line.Goals as goal

pub returns-then-is_empty-clause-parts : goal.returns-then-is_empty-clause-parts
returns-then-is_empty-clause-parts c =
    let none : length c.split_at.result.1.now ≡ 0 = grind (arith, common_steps, c.if-is_empty.ensures) in
    whole_at is_line_feed c.args.text.now _ c.split_at.result.1.now _ c.count_before_line_feed.ensures.count c.split_at.ensures.front c.split_at.ensures.back none

pub returns-clause-parts : goal.returns-clause-parts
returns-clause-parts c =
    let some : 0 < length c.split_at.result.1.now = omega (arith, c.split_at-2.ensures.back_len) in
    rw c.split_at-2.ensures.back (front_at is_line_feed c.args.text.now _ c.split_at.result.1.now _ c.count_before_line_feed.ensures.count c.split_at.ensures.front c.split_at.ensures.back some)
