use Rattle.std.proofs.Common.{rules, ◌≡◌, ◌<◌, ◌∙◌, [], ◌∷◌, ◌++◌, length, length-set, option_to_list, slice_set, Some, None, sym, ap, subst, arith}
use Rattle.row_table.specs.Table.{row_at, rows_at}
use Rattle.row_table.specs.Keeping.{IsTable}
use Rattle.row_table.proofs.Places.{at_last, row_read, row_same}
use Rattle.row_table.proofs.Listed.{listed_length, rows_snoc, rows_unseen}
use Rattle.row_table.proofs.Kept.{entered, was_away}
use Rattle.row_table.proofs.table.RowTable.enter.Goals as goal

pub index_mut-requires : goal.index_mut-requires
index_mut-requires g c =
    let cut : c.self.inside.free.items ≡ c.pop.new.self.items ++ c.in-Some.place ∷ [] = c.pop.ensures.items ∙ ap (λ z. c.pop.new.self.items ++ option_to_list z) c.in-Some.is in
    let t = subst (λ l. IsTable c.self.inside.rows.items c.self.inside.order.items l) cut c.self.invariant.0 in
    let e = (t.empty (length c.pop.new.self.items) c.in-Some.place (at_last c.pop.new.self.items c.in-Some.place)).0 in let ok = c.self.inside.rows.ok.0 in omega arith

pub put-requires : goal.put-requires
put-requires g c =
    let cut : c.self.inside.free.items ≡ c.pop.new.self.items ++ c.in-Some.place ∷ [] = c.pop.ensures.items ∙ ap (λ z. c.pop.new.self.items ++ option_to_list z) c.in-Some.is in
    let t = subst (λ l. IsTable c.self.inside.rows.items c.self.inside.order.items l) cut c.self.invariant.0 in
    let e = t.empty (length c.pop.new.self.items) c.in-Some.place (at_last c.pop.new.self.items c.in-Some.place) in
    sym (row_read c.self.inside.rows.items c.in-Some.place c.index_mut.result.now e.0 c.index_mut.ensures.value) ∙ e.1

pub invariant_of-self : goal.invariant_of-self
invariant_of-self g c =
    let cut : c.self.inside.free.items ≡ c.pop.new.self.items ++ c.in-Some.place ∷ [] = c.pop.ensures.items ∙ ap (λ z. c.pop.new.self.items ++ option_to_list z) c.in-Some.is in
    let t = subst (λ l. IsTable c.self.inside.rows.items c.self.inside.order.items l) cut c.self.invariant.0 in
    let l = length-set c.self.inside.rows.items c.in-Some.place c.put.new.place in let a = c.self.invariant.1 in let b = c.push_reserved.ensures.capacity in let d = c.self.invariant.2 in let e = c.pop.ensures.capacity in (
      subst (λ o. IsTable (slice_set c.self.inside.rows.items c.in-Some.place o) c.push_reserved.new.self.items c.pop.new.self.items) (sym c.put.ensures)
          (subst (λ l. IsTable (slice_set c.self.inside.rows.items c.in-Some.place (Some c.args.row)) l c.pop.new.self.items) (sym c.push_reserved.ensures.items)
          (entered c.self.inside.rows.items c.self.inside.order.items c.pop.new.self.items c.in-Some.place c.args.row t)),
      omega arith,
      omega arith,
    )

pub returns-clause-free : goal.returns-clause-free
returns-clause-free g c =
    let cut : c.self.inside.free.items ≡ c.pop.new.self.items ++ c.in-Some.place ∷ [] = c.pop.ensures.items ∙ ap (λ z. c.pop.new.self.items ++ option_to_list z) c.in-Some.is in
    let t = subst (λ l. IsTable c.self.inside.rows.items c.self.inside.order.items l) cut c.self.invariant.0 in
    subst (λ v. (c.in-Some.place < length v.rows) × (row_at v.rows c.in-Some.place ≡ None)) c.self.view_is (t.empty (length c.pop.new.self.items) c.in-Some.place (at_last c.pop.new.self.items c.in-Some.place))

pub returns-clause-listed : goal.returns-clause-listed
returns-clause-listed g c =
    let cut : c.self.inside.free.items ≡ c.pop.new.self.items ++ c.in-Some.place ∷ [] = c.pop.ensures.items ∙ ap (λ z. c.pop.new.self.items ++ option_to_list z) c.in-Some.is in
    let t = subst (λ l. IsTable c.self.inside.rows.items c.self.inside.order.items l) cut c.self.invariant.0 in
    let e = t.empty (length c.pop.new.self.items) c.in-Some.place (at_last c.pop.new.self.items c.in-Some.place) in
    let rows = c.self.inside.rows.items in let order = c.self.inside.order.items in let p = c.in-Some.place in
    (λ k. rows_at (slice_set rows p (c.put.ensures k)) (c.push_reserved.ensures.items k))
    ∙ (rows_snoc (slice_set rows p (Some c.args.row)) order p c.args.row (row_same rows p (Some c.args.row) e.0)
    ∙ (ap (λ l. l ++ c.args.row ∷ []) (rows_unseen rows order p (Some c.args.row) (was_away rows order c.pop.new.self.items p t))
    ∙ ap (λ v. rows_at v.rows v.order ++ c.args.row ∷ []) c.self.view_is))

pub unreachable-requires : goal.unreachable-requires
unreachable-requires g c =
    let t = c.self.invariant.0 in
    let all = subst (λ v. length (rows_at v.rows v.order) ≡ length v.order) c.self.view_is (listed_length c.self.inside.rows.items c.self.inside.order.items t.taken) in
    let room : length c.args.self.now.order < length c.args.self.now.rows = (let r = c.requires in omega arith) in
    search rules
