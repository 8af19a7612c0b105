use Rattle.std.proofs.Common.{List, ℕ, sym, subst, arith}
use Rattle.std.specs.Net.Grammar.{IsIpText}
use Rattle.ip_set.proofs.Words.{parts, too_many}
use Rattle.ip_set.proofs.block.Block.read_word.Goals as goal

pub returns-in_default-cut : goal.returns-in_default-cut
returns-in_default-cut c = λ b w.
    let p = parts c.args.word.now b c.in_default.ensures w in
    c.in_default-cut.ensures.only p.0 _ p.2 p.1

pub returns-in_default-parse_ascii : goal.returns-in_default-parse_ascii
returns-in_default-parse_ascii c = λ b w.
    let p = parts c.args.word.now b c.in_default.ensures w in
    let same = c.in-Some.ensures.only p.0 _ p.2 p.1 in
    c.in_default-parse_ascii.ensures b.address (subst (λ (t : List ℕ). IsIpText t b.address) (sym same.0) p.3)

pub returns-in_default-plain_number : goal.returns-in_default-plain_number
returns-in_default-plain_number c = λ b w.
    let p = parts c.args.word.now b c.in_default.ensures w in
    let same = c.in-Some.ensures.only p.0 _ p.2 p.1 in
    c.in_default-plain_number.ensures b.bits p.5 same.1

pub returns-then-bits-width : goal.returns-then-bits-width
returns-then-bits-width c = λ b w.
    let p = parts c.args.word.now b c.in_default.ensures w in
    let same = c.in-Some.ensures.only p.0 _ p.2 p.1 in
    too_many _ _ p.0 c.in-Ok-parse_ascii.address b c.in-Some-plain_number.bits c.in-Ok-parse_ascii.ensures c.in-Some-plain_number.ensures (omega arith) (rw c.width-2.ensures at c.if-bits-width.true) same.0 same.1 p.3 p.4 p.5
