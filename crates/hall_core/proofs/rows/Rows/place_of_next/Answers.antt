use Rattle.std.proofs.Common.{◌∙◌, refl, subst, arith}
use Rattle.due_index.specs.Due as index
use Rattle.hall_core.specs.State.{IsQuiet, is_next}
use Rattle.hall_core.specs.Found.{IsFirstAt}
use Rattle.hall_core.proofs.Deadlines.{least_row, next_at, next_none, quiet_late, quiet_none}
use Rattle.hall_core.proofs.rows.Rows.place_of_next.Goals as goal

pub returns-in_default-clause-place : goal.returns-in_default-clause-place
returns-in_default-clause-place g c =
    let q = quiet_none c.self.inside.table c.self.inside.due c.self.invariant.0 c.args.now (subst (λ o. index.IsLeast c.self.inside.due o) c.in_default.is c.least.ensures) in
    next_none c.args.self.now.rows c.args.now (subst (λ v. IsQuiet v.rows c.args.now) c.self.view_is q)

pub returns-in_default-clause-quiet : goal.returns-in_default-clause-quiet
returns-in_default-clause-quiet g c z =
    let q = quiet_none c.self.inside.table c.self.inside.due c.self.invariant.0 c.args.now (subst (λ o. index.IsLeast c.self.inside.due o) c.in_default.is c.least.ensures) in
    subst (λ v. IsQuiet v.rows c.args.now) c.self.view_is q

pub returns-then-now-deadline-clause-place : goal.returns-then-now-deadline-clause-place
returns-then-now-deadline-clause-place g c =
    let q = quiet_late c.self.inside.table c.self.inside.due c.self.invariant.0 c.args.now (c.in-Some.deadline, c.in-Some.field-0-1, c.in-Some.place) (subst (λ o. index.IsLeast c.self.inside.due o) c.in-Some.is c.least.ensures) (let t = c.if-now-deadline.true in omega arith) in
    next_none c.args.self.now.rows c.args.now (subst (λ v. IsQuiet v.rows c.args.now) c.self.view_is q)

pub returns-then-now-deadline-clause-quiet : goal.returns-then-now-deadline-clause-quiet
returns-then-now-deadline-clause-quiet g c z =
    let q = quiet_late c.self.inside.table c.self.inside.due c.self.invariant.0 c.args.now (c.in-Some.deadline, c.in-Some.field-0-1, c.in-Some.place) (subst (λ o. index.IsLeast c.self.inside.due o) c.in-Some.is c.least.ensures) (let t = c.if-now-deadline.true in omega arith) in
    subst (λ v. IsQuiet v.rows c.args.now) c.self.view_is q

pub at_place-requires-clause-held : goal.at_place-requires-clause-held
at_place-requires-clause-held g c =
    let w = least_row c.self.inside.table c.self.inside.due c.self.invariant.0 (c.in-Some.deadline, c.in-Some.field-0-1, c.in-Some.place) (subst (λ o. index.IsLeast c.self.inside.due o) c.in-Some.is c.least.ensures) in
    (w.0, w.1)

pub returns-clause-place : goal.returns-clause-place
returns-clause-place g c =
    let least = subst (λ o. index.IsLeast c.self.inside.due o) c.in-Some.is c.least.ensures in
    let w = least_row c.self.inside.table c.self.inside.due c.self.invariant.0 (c.in-Some.deadline, c.in-Some.field-0-1, c.in-Some.place) least in
    let at = c.at_place.ensures ∙ w.1 in
    let h = next_at c.self.inside.table c.self.inside.due c.self.invariant.0 c.args.now (c.in-Some.deadline, c.in-Some.field-0-1, c.in-Some.place) w.0 w.0 c.at_place.result c.at_place.result
    c.self.invariant.1 least (let f = c.if-now-deadline.false in omega arith) w.1 at at refl in
    subst (λ v. IsFirstAt (is_next c.args.now v.rows) v.rows c.at_place.result) c.self.view_is (w.0, h)
