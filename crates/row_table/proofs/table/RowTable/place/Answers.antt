use Rattle.std.proofs.Common.{◌≡◌, ◌<◌, ◌∙◌, length, slice_get, sym, subst}
use Rattle.row_table.specs.Table.{row_at, rows_at}
use Rattle.row_table.proofs.Places.{item_read}
use Rattle.row_table.proofs.Listed.{rows_place}
use Rattle.row_table.proofs.table.RowTable.place.Goals as goal

pub returns-clause-row : goal.returns-clause-row
returns-clause-row g c =
    let at = item_read c.self.inside.order.items c.args.at c.index.result.now (subst (λ v. c.args.at < length v.order) (sym c.self.view_is) c.requires) c.index.ensures in
    let t = c.self.invariant.0 in let x = t.taken c.args.at c.index.result.now at in
    subst (λ v. row_at v.rows c.index.result.now ≡ slice_get (rows_at v.rows v.order) c.args.at) c.self.view_is
    (x.1 ∙ sym (rows_place c.self.inside.rows.items c.self.inside.order.items c.args.at c.index.result.now x.0 t.taken at x.1))
