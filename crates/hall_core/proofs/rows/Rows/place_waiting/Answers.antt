use Rattle.std.proofs.Common.{◌≡◌, ◌∙◌, find, Some, None, sym, ap, subst}
use Rattle.std.proofs.lemmas.Option.{slice_get_within}
use Rattle.row_table.specs.Table.{listed}
use Rattle.hall_core.specs.Found.{IsFirst, IsFirstAt}
use Rattle.hall_core.specs.State.{has_key, waits}
use Rattle.hall_core.proofs.KeyedRows.{none_waits, runs_none, waits_first}
use Rattle.hall_core.proofs.rows.Rows.place_waiting.Goals as goal

pub returns-in_default : goal.returns-in_default
returns-in_default g c = none_waits c.args.key.now c.args.self.now.rows (subst (λ o. IsFirst (has_key c.args.key.now) c.args.self.now.rows o) c.in_default.is c.place_of_key.ensures)

pub get-requires : goal.get-requires
get-requires g c =
    let key = c.args.key.now in
    let h = subst (λ v. IsFirst (has_key key) v.rows (Some c.in-Some.at)) (sym c.self.view_is) (subst (λ o. IsFirst (has_key key) c.args.self.now.rows o) c.in-Some.is c.place_of_key.ensures) in
    slice_get_within (listed c.self.inside.table) c.in-Some.at h.0 h.1.here

pub returns-then-is_running : goal.returns-then-is_running
returns-then-is_running g c =
    let t = c.self.inside.table in let key = c.args.key.now in let row = c.get.result.now in
    let h = subst (λ v. IsFirst (has_key key) v.rows (Some c.in-Some.at)) (sym c.self.view_is) (subst (λ o. IsFirst (has_key key) c.args.self.now.rows o) c.in-Some.is c.place_of_key.ensures) in
    let is : h.0 ≡ row = (let e : Some h.0 ≡ Some row = sym h.1.here ∙ c.get.ensures in cc) in
    subst (λ v. find (waits key) v.rows ≡ None) c.self.view_is
    (runs_none t c.self.inside.by_key.places.items c.self.invariant.2 key c.in-Some.at row c.get.ensures (sym (ap (has_key key) is) ∙ h.1.passes) (sym c.is_running.ensures ∙ c.if-is_running.true))

pub returns : goal.returns
returns g c =
    let t = c.self.inside.table in let key = c.args.key.now in let row = c.get.result.now in
    let h = subst (λ v. IsFirst (has_key key) v.rows (Some c.in-Some.at)) (sym c.self.view_is) (subst (λ o. IsFirst (has_key key) c.args.self.now.rows o) c.in-Some.is c.place_of_key.ensures) in
    let is : h.0 ≡ row = (let e : Some h.0 ≡ Some row = sym h.1.here ∙ c.get.ensures in cc) in
    subst (λ v. IsFirstAt (waits key) v.rows c.in-Some.at) c.self.view_is
    (row, waits_first t c.self.inside.by_key.places.items c.self.invariant.2 key c.in-Some.at row c.self.invariant.1 c.get.ensures (sym (ap (has_key key) is) ∙ h.1.passes) (sym c.is_running.ensures ∙ c.if-is_running.false))
