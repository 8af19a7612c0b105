use Rattle.std.proofs.Common.{arith}
use Rattle.std.proofs.lemmas.Result.{err_from_is_err_and}
use Rattle.spop_data.specs.Data.{SpellsPairs}
use Rattle.spop_varint.proofs.Laws.{IsBytes}
use Rattle.spop_data.specs.Reading.{pairs_at}
use Rattle.spop_data.proofs.Steps.{none, refused, shorter, front, left, never}
use Rattle.spop_data.proofs.Laws.{pairs}
use Rattle.spop_data.proofs.read.read_pairs.Goals as goal

pub returns-in_err-pairs-clause-invalid : goal.returns-in_err-pairs-clause-invalid
returns-in_err-pairs-clause-invalid c =
    let n = c.args.count in
    let p = err_from_is_err_and c.from_residual.result c.from_residual.ensures.1 in
    rw (p.1, p.2) (λ is. none (pairs_at n) (SpellsPairs n) (pairs n) c.args.input.now (refused _ _ c.in_err-pairs.ensures is))

pub overflow_sub-result : goal.overflow_sub-result
overflow_sub-result c =
    let n = c.args.count in
    let all : IsBytes c.args.input.now = λ i. omega (arith, c.type_inv.input i) in
    shorter (pairs_at n) (SpellsPairs n) (pairs n) c.args.input.now all _ _ c.in_ok-pairs.ensures

pub returns-clause-read : goal.returns-clause-read
returns-clause-read c =
    let n = c.args.count in
    let all : IsBytes c.args.input.now = λ i. omega (arith, c.type_inv.input i) in
    front (pairs_at n) (SpellsPairs n) (pairs n) c.args.input.now all _ _ c.in_ok-pairs.ensures

pub returns-clause-never : goal.returns-clause-never
returns-clause-never c =
    let n = c.args.count in
    let all : IsBytes c.args.input.now = λ i. omega (arith, c.type_inv.input i) in
    never (pairs_at n) (SpellsPairs n) (pairs n) c.args.input.now all _ _ c.in_ok-pairs.ensures

pub returns-clause-exact : goal.returns-clause-exact
returns-clause-exact c =
    let n = c.args.count in
    let all : IsBytes c.args.input.now = λ i. omega (arith, c.type_inv.input i) in
    left (pairs_at n) (SpellsPairs n) (pairs n) c.args.input.now all _ _ c.in_ok-pairs.ensures
