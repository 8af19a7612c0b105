use Rattle.std.proofs.Common.{◌≡◌, ◌∙◌, length-set, slice_get, slice_set, Some, sym, ap, subst, arith}
use Rattle.row_table.specs.Table.{rows_at}
use Rattle.row_table.specs.Keeping.{IsTable}
use Rattle.row_table.proofs.Places.{item_is, row_read, row_within}
use Rattle.row_table.proofs.Listed.{rows_change, rows_place}
use Rattle.row_table.proofs.Kept.{replaced}
use Rattle.row_table.proofs.table.RowTable.change.Goals as goal

pub invariant_of-self : goal.invariant_of-self
invariant_of-self g c =
    let rows = c.self.inside.rows.items in let p = c.place-place.result in
    let at = ap (λ v. slice_get v.order c.args.at) c.self.view_is ∙ c.place-place.ensures.place in
    let l = length-set rows p c.change_held.new.place in let a = c.self.invariant.1 in let d = c.self.invariant.2 in (
      subst (λ o. IsTable (slice_set rows p o) c.self.inside.order.items c.self.inside.free.items) (sym c.change_held.ensures.4)
          (replaced rows c.self.inside.order.items c.self.inside.free.items c.args.at p c.change_held.ensures.1 at c.self.invariant.0),
      omega arith,
      omega arith,
    )

pub returns : goal.returns
returns g c =
    let rows = c.self.inside.rows.items in let order = c.self.inside.order.items in let p = c.place-place.result in let t = c.self.invariant.0 in
    let at = ap (λ v. slice_get v.order c.args.at) c.self.view_is ∙ c.place-place.ensures.place in
    let x = t.taken c.args.at p at in let w = row_within rows p x.0 x.1 in
    let y = c.change_held.ensures.1 in
    let is = row_read rows p c.index_mut.result.now w c.index_mut.ensures.value ∙ c.change_held.ensures.2 in
    let place = item_is c.args.self.now.order c.args.at p c.place-place.ensures.place in (
      c.change_held.ensures.0,
      y,
      subst (λ v. slice_get (rows_at v.rows v.order) c.args.at ≡ Some c.change_held.ensures.0) c.self.view_is (rows_place rows order c.args.at p c.change_held.ensures.0 t.taken at is),
      c.change_held.ensures.3,
      (λ k. record { rows = slice_set (c.self.view_is k).rows (sym place k) (c.change_held.ensures.4 k); order = (c.self.view_is k).order }),
      (λ k. rows_at (slice_set rows p (c.change_held.ensures.4 k)) order)
          ∙ (rows_change rows order c.args.at p y t.taken t.order_once at w
          ∙ ap (λ v. slice_set (rows_at v.rows v.order) c.args.at y) c.self.view_is),
    )
