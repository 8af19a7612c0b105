use Rattle.std.proofs.Common.{◌≡◌, Ok, Err, ap}
use Rattle.std.proofs.lemmas.Result.{err_from_is_err_and}
use Rattle.sec_parts.specs.Operators.{operator_of}
use Rattle.sec_parts.specs.Results.{◌>>=◌}
use Rattle.sec_read.specs.Faults.{placed}
use Rattle.sec_read.specs.Operators.{checked, checked_at, filled, operator_at}
use Rattle.sec_read.proofs.Told.{halts_stops, stops_bind, told_always}
use Rattle.sec_read.proofs.operators.read_operator_at.Goals as goal

pub returns-in_err-operator-3-clause-told : goal.returns-in_err-operator-3-clause-told
unfolding operator_at
returns-in_err-operator-3-clause-told g c =
    let p = err_from_is_err_and c.from_residual-in_err-operator-3.result c.from_residual-in_err-operator-3.ensures.1 in
    let e = c.in_err-operator-3.field-0.0 in
    let file = c.args.at.file.now in
    let stated = c.in_ok-operator.operator in
    let whole = c.in_ok-operator-2.operator in
    let first : placed file c.args.at.line (operator_of c.args.word.now) ≡ Ok stated = c.in_ok-operator.ensures (operator_of c.args.word.now) c.read_operator.ensures in
    let last = c.in_err-operator-3.ensures (checked whole) c.check_addresses.ensures in
    rw (p.1, p.2, first) (told_always (λ x. x) (λ files. filled files file c.args.at.line stated.file stated c.args.total) (whole, c.in_ok-operator-2.total)
    (λ files whole. checked_at file c.args.at.line whole) (Err e)
    (g.F.Files.content c.args.files.now) c.in_ok-operator-2.ensures.told (λ files. stops_bind e (placed file c.args.at.line (checked whole)) _ (halts_stops e _ last)))

pub returns-clause-told : goal.returns-clause-told
unfolding operator_at
returns-clause-told g c =
    let file = c.args.at.file.now in
    let stated = c.in_ok-operator.operator in
    let whole = c.in_ok-operator-2.operator in
    let total = c.in_ok-operator-2.total in
    let first : placed file c.args.at.line (operator_of c.args.word.now) ≡ Ok stated = c.in_ok-operator.ensures (operator_of c.args.word.now) c.read_operator.ensures in
    let last : placed file c.args.at.line (checked whole) ≡ Ok c.in_ok-operator-3.operator = c.in_ok-operator-3.ensures (checked whole) c.check_addresses.ensures in
    rw first (told_always (λ x. x) (λ files. filled files file c.args.at.line stated.file stated c.args.total) (whole, total)
    (λ files whole. checked_at file c.args.at.line whole) (Ok (c.in_ok-operator-3.operator, total))
    (g.F.Files.content c.args.files.now) c.in_ok-operator-2.ensures.told (λ files. ap (λ r. r >>= λ operator. Ok (operator, total)) last))
