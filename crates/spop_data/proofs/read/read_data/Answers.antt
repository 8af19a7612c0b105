use Rattle.std.proofs.Common.{arith}
use Rattle.std.proofs.lemmas.Result.{err_from_is_err_and}
use Rattle.spop_data.specs.Data.{SpellsData}
use Rattle.spop_varint.proofs.Laws.{IsBytes}
use Rattle.spop_data.specs.Reading.{data_at}
use Rattle.spop_data.proofs.Steps.{none, refused, shorter, front, left, never}
use Rattle.spop_data.proofs.Types.{value}
use Rattle.spop_data.proofs.read.read_data.Goals as goal

pub returns-in_err-value-clause-invalid : goal.returns-in_err-value-clause-invalid
returns-in_err-value-clause-invalid c =
    let p = err_from_is_err_and c.from_residual.result c.from_residual.ensures.1 in
    rw (p.1, p.2) (λ is. none data_at SpellsData value c.args.input.now (refused _ _ c.in_err-value.ensures is))

pub overflow_sub-result : goal.overflow_sub-result
overflow_sub-result c =
    let all : IsBytes c.args.input.now = λ i. omega (arith, c.type_inv.input i) in
    shorter data_at SpellsData value c.args.input.now all _ _ c.in_ok-value.ensures

pub returns-clause-read : goal.returns-clause-read
returns-clause-read c =
    let all : IsBytes c.args.input.now = λ i. omega (arith, c.type_inv.input i) in
    front data_at SpellsData value c.args.input.now all _ _ c.in_ok-value.ensures

pub returns-clause-never : goal.returns-clause-never
returns-clause-never c =
    let all : IsBytes c.args.input.now = λ i. omega (arith, c.type_inv.input i) in
    never data_at SpellsData value c.args.input.now all _ _ c.in_ok-value.ensures

pub returns-clause-exact : goal.returns-clause-exact
returns-clause-exact c =
    let all : IsBytes c.args.input.now = λ i. omega (arith, c.type_inv.input i) in
    left data_at SpellsData value c.args.input.now all _ _ c.in_ok-value.ensures
