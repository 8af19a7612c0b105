use Rattle.std.proofs.Common.{◌≡◌, ◌<◌, ◌∙◌, length, length-set, slice_get, slice_set, Some, sym, ap, subst, arith}
use Rattle.row_table.specs.Table.{rows_at}
use Rattle.row_table.specs.Keeping.{IsTable}
use Rattle.row_table.proofs.Places.{item_read, row_read, row_within}
use Rattle.row_table.proofs.Listed.{rows_change, rows_place}
use Rattle.row_table.proofs.Kept.{replaced}
use Rattle.row_table.proofs.table.RowTable.replace.Goals as goal

pub index_mut-held-requires : goal.index_mut-held-requires
index_mut-held-requires g c =
    let at = item_read c.self.inside.order.items c.args.at c.index-place.result.now (subst (λ v. c.args.at < length v.order) (sym c.self.view_is) c.requires) c.index-place.ensures in
    let t = c.self.invariant.0 in let x = t.taken c.args.at c.index-place.result.now at in let w = row_within c.self.inside.rows.items c.index-place.result.now x.0 x.1 in let ok = c.self.inside.rows.ok.0 in omega arith

pub take_out-old-requires : goal.take_out-old-requires
take_out-old-requires g c =
    let at = item_read c.self.inside.order.items c.args.at c.index-place.result.now (subst (λ v. c.args.at < length v.order) (sym c.self.view_is) c.requires) c.index-place.ensures in
    let t = c.self.invariant.0 in let x = t.taken c.args.at c.index-place.result.now at in let w = row_within c.self.inside.rows.items c.index-place.result.now x.0 x.1 in
    (x.0, sym (row_read c.self.inside.rows.items c.index-place.result.now c.index_mut-held.result.now w c.index_mut-held.ensures.value) ∙ x.1)

pub invariant_of-self : goal.invariant_of-self
invariant_of-self g c =
    let at = item_read c.self.inside.order.items c.args.at c.index-place.result.now (subst (λ v. c.args.at < length v.order) (sym c.self.view_is) c.requires) c.index-place.ensures in
    let l = length-set c.self.inside.rows.items c.index-place.result.now c.put.new.place in let a = c.self.invariant.1 in let d = c.self.invariant.2 in (
      subst (λ o. IsTable (slice_set c.self.inside.rows.items c.index-place.result.now o) c.self.inside.order.items c.self.inside.free.items) (sym c.put.ensures)
          (replaced c.self.inside.rows.items c.self.inside.order.items c.self.inside.free.items c.args.at c.index-place.result.now c.args.row at c.self.invariant.0),
      omega arith,
      omega arith,
    )

pub returns-clause-row : goal.returns-clause-row
returns-clause-row g c =
    let at = item_read c.self.inside.order.items c.args.at c.index-place.result.now (subst (λ v. c.args.at < length v.order) (sym c.self.view_is) c.requires) c.index-place.ensures in
    let t = c.self.invariant.0 in let x = t.taken c.args.at c.index-place.result.now at in let w = row_within c.self.inside.rows.items c.index-place.result.now x.0 x.1 in
    let is = row_read c.self.inside.rows.items c.index-place.result.now c.index_mut-held.result.now w c.index_mut-held.ensures.value ∙ c.take_out-old.ensures.row in
    subst (λ v. slice_get (rows_at v.rows v.order) c.args.at ≡ Some c.take_out-old.result) c.self.view_is
    (rows_place c.self.inside.rows.items c.self.inside.order.items c.args.at c.index-place.result.now c.take_out-old.result t.taken at is)

pub returns-clause-listed : goal.returns-clause-listed
returns-clause-listed g c =
    let at = item_read c.self.inside.order.items c.args.at c.index-place.result.now (subst (λ v. c.args.at < length v.order) (sym c.self.view_is) c.requires) c.index-place.ensures in
    let rows = c.self.inside.rows.items in let order = c.self.inside.order.items in let p = c.index-place.result.now in let t = c.self.invariant.0 in
    let x = t.taken c.args.at p at in let w = row_within rows p x.0 x.1 in
    (λ k. rows_at (slice_set rows p (c.put.ensures k)) order)
    ∙ (rows_change rows order c.args.at p c.args.row t.taken t.order_once at w
    ∙ ap (λ v. slice_set (rows_at v.rows v.order) c.args.at c.args.row) c.self.view_is)
