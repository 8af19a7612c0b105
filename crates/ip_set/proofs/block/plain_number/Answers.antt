use Rattle.std.proofs.Common.{◌≡◌, true, false, refl}
use Rattle.ip_set.proofs.Words.{front_of, utf8_of, parse_fails, parse_gives}
use Rattle.ip_set.proofs.block.plain_number.Goals as goal

pub returns-then-not-has_plain_front : goal.returns-then-not-has_plain_front
returns-then-not-has_plain_front c = λ n small e.
    let t : false ≡ true = c.if-not-has_plain_front.ensures.1 (front_of c.args.text.now n small e) in cc

pub returns-in_default : goal.returns-in_default
returns-in_default c = λ n small e. c.in_default.ensures.cases.0 (utf8_of c.args.text.now n small e)

pub returns-in_default-parse : goal.returns-in_default-parse
returns-in_default-parse c = λ n small e.
    parse_fails c.args.text.now n small e (rw c.in-Ok.ensures.cases.0 at c.in_default-parse.ensures.value.0)

pub returns : goal.returns
returns c =
    parse_gives c.args.text.now c.in-Ok-parse.n (c.if-not-has_plain_front.ensures.0 refl) (rw c.in-Ok.ensures.cases.0 at c.in-Ok-parse.ensures.value.0)
