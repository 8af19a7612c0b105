use Rattle.std.proofs.Common.{◌≡◌, ℕ, slice_get, Some, subst}
use Rattle.row_table.specs.Table.{row_at, rows_at}
use Rattle.row_table.proofs.Listed.{rows_place}
use Rattle.row_table.proofs.table.RowTable.each_row_is_listed.Goals as goal

pub returns : goal.returns
returns g c = subst (λ v. (place : ℕ) (x : g.row.T.Denot) → row_at v.rows place ≡ Some x → (at : ℕ) × (slice_get (rows_at v.rows v.order) at ≡ Some x)) c.self.view_is
    (λ place x held. let t = c.self.invariant.0 in let i = t.found place x held in
    (i.0, rows_place c.self.inside.rows.items c.self.inside.order.items i.0 place x t.taken i.1 held))
