use Rattle.std.proofs.Common.{refl}
use Rattle.std.proofs.lemmas.Str.{is_utf8-from_IsUtf8}
use Rattle.sec_text.proofs.Splitting.{not_utf8}
use Rattle.sec_text.proofs.lines.find_bad_byte.Goals as goal

pub returns-in-Ok : goal.returns-in-Ok
returns-in-Ok c = is_utf8-from_IsUtf8 c.args.text.now c.in-Ok.ensures.cases.1

pub returns-in-Err : goal.returns-in-Err
returns-in-Err c = (not_utf8 c.args.text.now c.in-Err.ensures.cases.0, rw (c.count_line_feeds.ensures, c.split_at.ensures.front, c.valid_up_to.ensures, c.in-Err.ensures.valid_len) refl)
