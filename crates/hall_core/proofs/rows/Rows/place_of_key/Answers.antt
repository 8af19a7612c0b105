use Rattle.std.proofs.Common.{◌∙◌, Some, None, subst}
use Rattle.row_table.specs.Table.{row_at}
use Rattle.hall_core.specs.Found.{IsFirst}
use Rattle.hall_core.specs.Keys.{IsKeyPlace, key_at}
use Rattle.hall_core.specs.State.{has_key}
use Rattle.hall_core.proofs.KeyedRows.{free_none, key_first, some_key}
use Rattle.hall_core.proofs.rows.Rows.place_of_key.Goals as goal

pub returns-in_default : goal.returns-in_default
returns-in_default g c =
    let t = c.self.inside.table in let key = c.args.key.now in
    subst (λ v. IsFirst (has_key key) v.rows None) c.self.view_is (free_none t key (subst (λ o. IsKeyPlace (key_at t.rows) key o) c.in_default.is c.find.ensures))

pub at_place-requires-clause-held : goal.at_place-requires-clause-held
at_place-requires-clause-held g c =
    let t = c.self.inside.table in let key = c.args.key.now in
    let row = some_key (row_at t.rows c.in-Some.place) key (subst (λ o. IsKeyPlace (key_at t.rows) key o) c.in-Some.is c.find.ensures) in
    (row.0, row.1)

pub returns : goal.returns
returns g c =
    let t = c.self.inside.table in let key = c.args.key.now in
    let row = some_key (row_at t.rows c.in-Some.place) key (subst (λ o. IsKeyPlace (key_at t.rows) key o) c.in-Some.is c.find.ensures) in
    let first = key_first t c.self.inside.by_key.places.items c.self.invariant.2 key c.at_place.result row.0 c.self.invariant.1 (c.at_place.ensures ∙ row.1) row.2 in
    subst (λ v. IsFirst (has_key key) v.rows (Some c.at_place.result)) c.self.view_is (row.0, first)
