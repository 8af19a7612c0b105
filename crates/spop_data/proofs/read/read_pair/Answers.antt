use Rattle.std.proofs.Common.{arith}
use Rattle.std.proofs.lemmas.Result.{err_from_is_err_and}
use Rattle.spop_data.specs.Data.{SpellsPair}
use Rattle.spop_varint.proofs.Laws.{IsBytes}
use Rattle.spop_data.specs.Reading.{pair_at}
use Rattle.spop_data.proofs.Steps.{none, refused, shorter, front, left, never}
use Rattle.spop_data.proofs.Laws.{pair}
use Rattle.spop_data.proofs.read.read_pair.Goals as goal

pub returns-in_err-pair-clause-invalid : goal.returns-in_err-pair-clause-invalid
returns-in_err-pair-clause-invalid c =
    let p = err_from_is_err_and c.from_residual.result c.from_residual.ensures.1 in
    rw (p.1, p.2) (λ is. none pair_at SpellsPair pair c.args.input.now (refused _ _ c.in_err-pair.ensures is))

pub overflow_sub-result : goal.overflow_sub-result
overflow_sub-result c =
    let all : IsBytes c.args.input.now = λ i. omega (arith, c.type_inv.input i) in
    shorter pair_at SpellsPair pair c.args.input.now all _ _ c.in_ok-pair.ensures

pub returns-clause-read : goal.returns-clause-read
returns-clause-read c =
    let all : IsBytes c.args.input.now = λ i. omega (arith, c.type_inv.input i) in
    front pair_at SpellsPair pair c.args.input.now all _ _ c.in_ok-pair.ensures

pub returns-clause-never : goal.returns-clause-never
returns-clause-never c =
    let all : IsBytes c.args.input.now = λ i. omega (arith, c.type_inv.input i) in
    never pair_at SpellsPair pair c.args.input.now all _ _ c.in_ok-pair.ensures

pub returns-clause-exact : goal.returns-clause-exact
returns-clause-exact c =
    let all : IsBytes c.args.input.now = λ i. omega (arith, c.type_inv.input i) in
    left pair_at SpellsPair pair c.args.input.now all _ _ c.in_ok-pair.ensures
