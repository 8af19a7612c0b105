use Rattle.std.proofs.Common.{arith}
use Rattle.spop_varint.proofs.Laws.{IsBytes}
use Rattle.spop_talk.proofs.Messages.{read, invalid, never}
use Rattle.spop_talk.proofs.message.read_messages.Goals as goal

pub returns-clause-read : goal.returns-clause-read
returns-clause-read c =
    let all : IsBytes c.args.payload.now = λ i. omega (arith, c.type_inv.payload i) in
    read c.args.payload.now all c.messages_in.result c.messages_in.ensures

pub returns-clause-invalid : goal.returns-clause-invalid
returns-clause-invalid c = invalid c.args.payload.now c.messages_in.result c.messages_in.ensures

pub returns-clause-never : goal.returns-clause-never
returns-clause-never c =
    let all : IsBytes c.args.payload.now = λ i. omega (arith, c.type_inv.payload i) in
    never c.args.payload.now all c.messages_in.result c.messages_in.ensures
