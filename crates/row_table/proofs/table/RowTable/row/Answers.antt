use Rattle.std.proofs.Common.{◌≡◌, ℕ, ◌∙◌, slice_get, Some, ap, subst}
use Rattle.row_table.specs.Table.{row_at, rows_at}
use Rattle.row_table.proofs.Places.{row_read, row_within}
use Rattle.row_table.proofs.Listed.{rows_place}
use Rattle.row_table.proofs.table.RowTable.row.Goals as goal

pub returns-clause-listed : goal.returns-clause-listed
returns-clause-listed g c =
    let rows = c.self.inside.rows.items in
    let some = ap (λ v. row_at v.rows c.args.place) c.self.view_is ∙ c.requires.1 in
    let held : row_at rows c.args.place ≡ Some c.in-Some.row = row_read rows c.args.place c.index.result.now (row_within rows c.args.place c.requires.0 some) c.index.ensures ∙ c.in-Some.is in
    let t = c.self.invariant.0 in let i = t.found c.args.place c.in-Some.row held in
    subst (λ v. (i : ℕ) × (slice_get (rows_at v.rows v.order) i ≡ Some c.in-Some.row)) c.self.view_is
    (i.0, rows_place rows c.self.inside.order.items i.0 c.args.place c.in-Some.row t.taken i.1 held)
