use Rattle.std.proofs.Common.{◌≡◌, ◌∙◌, [], ◌∷◌, length, length-append, length-set, slice_set, count_by, find, is_some, not, Some, None, refl, sym, ap, subst, arith}
use Rattle.std.proofs.lemmas.List.Edits.{length-insert}
use Rattle.row_table.specs.Table.{listed}
use Rattle.row_table.proofs.Places.{row_other, row_same}
use Rattle.hall_core.specs.declared.row.Row.{Row}
use Rattle.hall_core.specs.declared.row.Stage.TheVariants.{Running}
use Rattle.hall_core.specs.Deadlines.{deadline_of, deadlines}
use Rattle.hall_core.specs.Found.{Ascending, UpTo}
use Rattle.hall_core.specs.Keys.{IsByKey, key_at, key_of}
use Rattle.hall_core.specs.State.{has_key, is_running}
use Rattle.hall_core.proofs.Deadlines.{deadline_read, deadline_set, set_none}
use Rattle.hall_core.proofs.KeyOrder.{by_key_more}
use Rattle.hall_core.proofs.KeyedRows.{none_free}
use Rattle.hall_core.proofs.Numbers.{ascending_more}
use Rattle.hall_core.proofs.ParkedCounts.{counts_entered}
use Rattle.hall_core.proofs.rows.Rows.enter.Goals as goal

pub gap-at-requires-clause-free : goal.gap-at-requires-clause-free
gap-at-requires-clause-free g c =
    let t = c.self.inside.table in
    none_free t c.args.key c.each_row_is_listed.ensures (subst (λ v. find (has_key c.args.key) v.rows ≡ None) (sym c.self.view_is) c.requires.free)

pub invariant_of-self : goal.invariant_of-self
invariant_of-self g c =
    let t = c.self.inside.table in let row : Row g.row.P.Denot = record { key = c.args.key; number = c.args.number; stage = Running } in
    let p = c.enter-place.result in let places = c.self.inside.by_key.places.items in let table = c.enter-place.ensures.table in
    let free = c.enter-place.ensures.free in let cut = c.gap-at.ensures in
    let by = by_key_more (key_at t.rows) places (key_at (slice_set t.rows p (Some row))) p c.args.key c.gap-at.result (ap key_of free.1) (ap key_of (row_same t.rows p (Some row) free.0))
    (λ q other. ap key_of (row_other t.rows p q (Some row) other)) c.self.invariant.2 cut in (
      c.self.invariant.0 ∙ (sym (set_none (deadlines t.rows) p (deadline_read t.rows p ∙ ap deadline_of free.1))
          ∙ (sym (deadline_set t.rows p (Some row)) ∙ sym (ap (λ u. deadlines u.rows) table))),
      subst (λ l. Ascending l) (sym c.enter-place.ensures.listed)
          (ascending_more (listed t) row c.requires.last.0 c.self.invariant.1 (subst (λ v. UpTo c.requires.last.0 v.rows) (sym c.self.view_is) c.requires.last.2) c.requires.last.1),
      subst (λ u. IsByKey (key_at u.rows) c.insert.new.self.places.items) (sym table) (subst (λ l. IsByKey (key_at (slice_set t.rows p (Some row))) l) (sym c.insert.ensures.places) by),
      (let l = ap length c.insert.ensures.places in let m = ap length c.enter-place.ensures.listed in let i = length-insert places c.gap-at.result p cut.within in let j = length-append (listed t) (row ∷ []) in let k = c.self.invariant.3 in omega arith),
      (let l = ap (λ u. length u.rows) table in let m = length-set t.rows p (Some row) in let k = c.self.invariant.4 in let n = c.insert.ensures.capacity in omega arith),
      subst (λ l. count_by is_some c.self.inside.due ≡ count_by (λ row. not (is_running row.stage)) l) (sym c.enter-place.ensures.listed) (counts_entered c.self.inside.due (listed t) row refl c.self.invariant.5),
    )
