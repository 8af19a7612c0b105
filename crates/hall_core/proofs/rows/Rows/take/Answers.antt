use Rattle.std.proofs.Common.{◌≡◌, ◌<◌, ◌∙◌, length, length-set, slice_set, count_by, is_some, not, Some, None, sym, ap, subst, arith}
use Rattle.std.proofs.lemmas.Option.{slice_get_within}
use Rattle.row_table.specs.Table.{listed}
use Rattle.row_table.proofs.Kept.{length_removed}
use Rattle.row_table.proofs.Listed.{listed_le}
use Rattle.row_table.proofs.Places.{item_is, item_within, row_other, row_same, row_within}
use Rattle.due_index.specs.Due as index
use Rattle.hall_core.specs.Deadlines.{deadline_of, deadlines}
use Rattle.hall_core.specs.Found.{Ascending}
use Rattle.hall_core.specs.Keys.{IsByKey, key_at, key_of}
use Rattle.hall_core.specs.State.{is_running}
use Rattle.hall_core.proofs.Deadlines.{deadline_length, deadline_read, deadline_set}
use Rattle.hall_core.proofs.KeyOrder.{by_key_less}
use Rattle.hall_core.proofs.Numbers.{ascending_removed}
use Rattle.hall_core.proofs.ParkedCounts.{counts_taken}
use Rattle.hall_core.proofs.rows.Rows.take.Goals as goal

pub place-place-requires : goal.place-place-requires
place-place-requires g c = let t = c.self.inside.table in let le = listed_le t.rows t.order in let r = subst (λ v. c.args.at < length v.rows) (sym c.self.view_is) c.requires in omega arith

pub position-requires-clause-held : goal.position-requires-clause-held
position-requires-clause-held g c =
    let t = c.self.inside.table in
    let x = item_within (listed t) c.args.at (subst (λ v. c.args.at < length v.rows) (sym c.self.view_is) c.requires) in
    (x.0, c.place-place.ensures.row ∙ x.1)

pub remove-requires : goal.remove-requires
remove-requires g c = slice_get_within c.self.inside.by_key.places.items c.position.result c.place-place.result c.position.ensures

pub take-requires : goal.take-requires
take-requires g c = let t = c.self.inside.table in let le = listed_le t.rows t.order in let r = subst (λ v. c.args.at < length v.rows) (sym c.self.view_is) c.requires in omega arith

pub invariant_of-self : goal.invariant_of-self
invariant_of-self g c =
    let t = c.self.inside.table in let p = c.place-place.result in let place = item_is t.order c.args.at p c.place-place.ensures.place in
    let within = subst (λ v. c.args.at < length v.rows) (sym c.self.view_is) c.requires in
    let x = item_within (listed t) c.args.at within in let held = c.place-place.ensures.row ∙ x.1 in let inside = row_within t.rows p x.0 held in
    let due = c.self.inside.due in let places = c.self.inside.by_key.places.items in
    let rows : c.take.new.self.rows ≡ slice_set t.rows p None = ap (λ u. u.rows) c.take.ensures.table ∙ ap (λ q. slice_set t.rows q None) place in
    let by = by_key_less (key_at t.rows) places (key_at (slice_set t.rows p None)) p c.position.result c.position.ensures (ap key_of (row_same t.rows p None inside))
    (λ q other. ap key_of (row_other t.rows p q None other)) c.self.invariant.2 in
    let in_due : p < length due = (let a = ap length c.self.invariant.0 in let b = deadline_length t.rows in omega arith) in
    let is_due : index.held_at due p ≡ deadline_of (Some x.0) = ap (λ h. index.held_at h p) c.self.invariant.0 ∙ (deadline_read t.rows p ∙ ap deadline_of held) in
    let counts = counts_taken due p (listed t) c.args.at x.0 in_due is_due x.1 c.self.invariant.5 in (
      c.remove-2.ensures.rest ∙ ((λ k. slice_set (c.self.invariant.0 k) p None) ∙ (sym (deadline_set t.rows p None) ∙ sym (ap deadlines rows))),
      subst (λ l. Ascending l) (sym c.take.ensures.listed) (ascending_removed (listed t) c.args.at c.self.invariant.1),
      subst (λ u. IsByKey (key_at u) c.remove.new.self.places.items) (sym rows) (subst (λ l. IsByKey (key_at (slice_set t.rows p None)) l) (sym c.remove.ensures.places) by),
      (let l = ap length c.remove.ensures.places in let m = ap length c.take.ensures.listed in
          let i = length_removed places c.position.result (slice_get_within places c.position.result p c.position.ensures) in let j = length_removed (listed t) c.args.at within in let k = c.self.invariant.3 in omega arith),
      (let l = ap length rows in let m = length-set t.rows p None in let k = c.self.invariant.4 in let n = c.remove.ensures.capacity in omega arith),
      ap (count_by is_some) c.remove-2.ensures.rest ∙ (counts ∙ sym (ap (count_by (λ row. not (is_running row.stage))) c.take.ensures.listed)),
    )
