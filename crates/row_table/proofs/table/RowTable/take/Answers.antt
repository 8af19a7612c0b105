use Rattle.std.proofs.Common.{◌≡◌, ◌<◌, ◌∙◌, length, length-set, remove, slice_get, slice_set, Some, None, sym, ap, subst, arith}
use Rattle.row_table.specs.Table.{rows_at}
use Rattle.row_table.specs.Keeping.{IsTable}
use Rattle.row_table.proofs.Places.{item_read, row_read, row_within}
use Rattle.row_table.proofs.Listed.{rows_place, rows_remove, rows_unseen}
use Rattle.row_table.proofs.Kept.{out_of_order, taken_out}
use Rattle.row_table.proofs.table.RowTable.take.Goals as goal

pub index_mut-requires : goal.index_mut-requires
index_mut-requires g c =
    let at = item_read c.self.inside.order.items c.args.at c.remove-place.result (subst (λ v. c.args.at < length v.order) (sym c.self.view_is) c.requires) c.remove-place.ensures.value in
    let t = c.self.invariant.0 in let x = t.taken c.args.at c.remove-place.result at in let w = row_within c.self.inside.rows.items c.remove-place.result x.0 x.1 in let ok = c.self.inside.rows.ok.0 in omega arith

pub take_out-row-requires : goal.take_out-row-requires
take_out-row-requires g c =
    let at = item_read c.self.inside.order.items c.args.at c.remove-place.result (subst (λ v. c.args.at < length v.order) (sym c.self.view_is) c.requires) c.remove-place.ensures.value in
    let t = c.self.invariant.0 in let x = t.taken c.args.at c.remove-place.result at in let w = row_within c.self.inside.rows.items c.remove-place.result x.0 x.1 in
    (x.0, sym (row_read c.self.inside.rows.items c.remove-place.result c.index_mut.result.now w c.index_mut.ensures.value) ∙ x.1)

pub invariant_of-self : goal.invariant_of-self
invariant_of-self g c =
    let at = item_read c.self.inside.order.items c.args.at c.remove-place.result (subst (λ v. c.args.at < length v.order) (sym c.self.view_is) c.requires) c.remove-place.ensures.value in
    let l = length-set c.self.inside.rows.items c.remove-place.result c.take_out-row.new.place in let a = c.self.invariant.1 in let b = c.push_reserved.ensures.capacity in let d = c.self.invariant.2 in let e = c.remove-place.ensures.capacity in (
      subst (λ o. IsTable (slice_set c.self.inside.rows.items c.remove-place.result o) c.remove-place.new.self.items c.push_reserved.new.self.items) (sym c.take_out-row.ensures.rest)
          (subst (λ l. IsTable (slice_set c.self.inside.rows.items c.remove-place.result None) l c.push_reserved.new.self.items) (sym c.remove-place.ensures.items)
          (subst (λ l. IsTable (slice_set c.self.inside.rows.items c.remove-place.result None) (remove c.self.inside.order.items c.args.at) l) (sym c.push_reserved.ensures.items)
          (taken_out c.self.inside.rows.items c.self.inside.order.items c.self.inside.free.items c.args.at c.remove-place.result at c.self.invariant.0))),
      omega arith,
      omega arith,
    )

pub returns-clause-row : goal.returns-clause-row
returns-clause-row g c =
    let at = item_read c.self.inside.order.items c.args.at c.remove-place.result (subst (λ v. c.args.at < length v.order) (sym c.self.view_is) c.requires) c.remove-place.ensures.value in
    let t = c.self.invariant.0 in let x = t.taken c.args.at c.remove-place.result at in let w = row_within c.self.inside.rows.items c.remove-place.result x.0 x.1 in
    let is = row_read c.self.inside.rows.items c.remove-place.result c.index_mut.result.now w c.index_mut.ensures.value ∙ c.take_out-row.ensures.row in
    subst (λ v. slice_get (rows_at v.rows v.order) c.args.at ≡ Some c.take_out-row.result) c.self.view_is
    (rows_place c.self.inside.rows.items c.self.inside.order.items c.args.at c.remove-place.result c.take_out-row.result t.taken at is)

pub returns-clause-listed : goal.returns-clause-listed
returns-clause-listed g c =
    let at = item_read c.self.inside.order.items c.args.at c.remove-place.result (subst (λ v. c.args.at < length v.order) (sym c.self.view_is) c.requires) c.remove-place.ensures.value in
    let rows = c.self.inside.rows.items in let order = c.self.inside.order.items in let p = c.remove-place.result in let t = c.self.invariant.0 in
    (λ k. rows_at (slice_set rows p (c.take_out-row.ensures.rest k)) (c.remove-place.ensures.items k))
    ∙ (rows_unseen rows (remove order c.args.at) p None (out_of_order rows order c.self.inside.free.items c.args.at p at t)
    ∙ (rows_remove rows order c.args.at t.taken
    ∙ ap (λ v. remove (rows_at v.rows v.order) c.args.at) c.self.view_is))
