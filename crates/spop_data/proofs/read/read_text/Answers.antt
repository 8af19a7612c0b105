use Rattle.std.proofs.Common.{arith}
use Rattle.spop_varint.proofs.Laws.{IsBytes}
use Rattle.spop_data.proofs.Numbers.{is_text, no_text}
use Rattle.spop_data.proofs.read.read_text.Goals as goal

pub returns-clause-read : goal.returns-clause-read
returns-clause-read c =
    let all : IsBytes c.args.input.now = λ i. omega (arith, c.type_inv.input i) in
    is_text (λ x. (x.0.now, x.1.now)) c.args.input.now all c.counted_of.result c.counted_of.ensures

pub returns-clause-none : goal.returns-clause-none
returns-clause-none c = no_text (λ x. (x.0.now, x.1.now)) c.args.input.now c.counted_of.result c.counted_of.ensures
