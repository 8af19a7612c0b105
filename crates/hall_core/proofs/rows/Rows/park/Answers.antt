use Rattle.std.proofs.Common.{rules, ◌≡◌, ℕ, ◌<◌, ◌∙◌, true, length, length-set, slice_set, count_by, is_some, not, Some, None, sym, ap, subst, arith}
use Rattle.std.proofs.lemmas.Option.{slice_get_within}
use Rattle.row_table.specs.Table.{listed, place_at}
use Rattle.row_table.proofs.Listed.{listed_le}
use Rattle.row_table.proofs.Places.{item_is, row_within}
use Rattle.due_index.specs.Due as index
use Rattle.hall_core.specs.Deadlines.{deadline_of, deadlines}
use Rattle.hall_core.specs.State.{is_running, parked}
use Rattle.hall_core.specs.Found.{Ascending}
use Rattle.hall_core.specs.Keys.{IsByKey, key_at}
use Rattle.hall_core.specs.Moves.{runs_is}
use Rattle.hall_core.proofs.Deadlines.{deadline_length, deadline_read, deadline_set}
use Rattle.hall_core.proofs.KeyOrder.{by_key_same}
use Rattle.hall_core.proofs.KeyedRows.{same_keys}
use Rattle.hall_core.proofs.Numbers.{ascending_set}
use Rattle.hall_core.proofs.ParkedCounts.{counts_parked}
use Rattle.hall_core.proofs.Stages.{runs_running, until_running}
use Rattle.hall_core.proofs.rows.Rows.park.Goals as goal

pub place-requires : goal.place-requires
place-requires g c = (let t = c.self.inside.table in let h = c.place_of_running-at.ensures in let le = listed_le t.rows t.order in let w = slice_get_within (listed t) c.place_of_running-at.result h.0 h.1.here in omega arith)

pub add-requires-clause-within : goal.add-requires-clause-within
add-requires-clause-within g c =
    let t = c.self.inside.table in let h = c.place_of_running-at.ensures in
    let w = row_within t.rows c.place.result h.0 (c.place.ensures.row ∙ h.1.here) in
    let n = deadline_length t.rows in let m = ap length c.self.invariant.0 in omega arith

pub add-requires-clause-free : goal.add-requires-clause-free
add-requires-clause-free g c =
    let t = c.self.inside.table in let h = c.place_of_running-at.ensures in
    ap (λ d. index.held_at d c.place.result) c.self.invariant.0 ∙ (deadline_read t.rows c.place.result ∙ (ap deadline_of (c.place.ensures.row ∙ h.1.here)
    ∙ until_running h.0.number h.0.stage (runs_running c.args.number h.0 h.1.passes)))

pub change-requires-clause-within : goal.change-requires-clause-within
change-requires-clause-within g c = (let t = c.self.inside.table in let h = c.place_of_running-at.ensures in let le = listed_le t.rows t.order in let w = slice_get_within (listed t) c.place_of_running-at.result h.0 h.1.here in omega arith)

pub invariant_of-self : goal.invariant_of-self
invariant_of-self g c =
    let t = c.self.inside.table in let h = c.place_of_running-at.ensures in let at : ℕ = c.place_of_running-at.result in
    let row = c.change.ensures.0 in let now = c.change.ensures.1 in
    let is : h.0 ≡ row = (let e : Some h.0 ≡ Some row = sym h.1.here ∙ c.change.ensures.2 in cc) in
    let becomes : now ≡ parked c.args.deadline c.args.value row = search rules in
    let number : row.number ≡ c.args.number = ap (λ r. r.number) (sym is) ∙ runs_is c.args.number h.0 h.1.passes in
    let held : deadline_of (Some now) ≡ Some (c.args.deadline, c.args.number) = ap (λ r. deadline_of (Some r)) becomes ∙ ap (λ n. Some (c.args.deadline, n)) number in
    let place = item_is t.order at c.place.result c.place.ensures.place in
    let p = c.place.result in let due = c.self.inside.due in let held_row = c.place.ensures.row ∙ c.change.ensures.2 in
    let rows : c.change.new.self.rows ≡ slice_set t.rows p (Some now) = ap (λ u. u.rows) c.change.ensures.4 ∙ ap (λ q. slice_set t.rows q (Some now)) place in
    let by = by_key_same (key_at t.rows) c.self.inside.by_key.places.items (key_at (slice_set t.rows p (Some now))) (same_keys t.rows p row now held_row (ap (λ r. r.key) becomes)) c.self.invariant.2 in
    let runs : is_running row.stage ≡ true = ap (λ r. is_running r.stage) (sym is) ∙ runs_running c.args.number h.0 h.1.passes in
    let in_due : p < length due = (let a = ap length c.self.invariant.0 in let b = deadline_length t.rows in let w = row_within t.rows p row held_row in omega arith) in
    let free : index.held_at due p ≡ None = ap (λ d. index.held_at d p) c.self.invariant.0 ∙ (deadline_read t.rows p ∙ (ap deadline_of held_row ∙ until_running row.number row.stage runs)) in
    let counts = counts_parked due p (c.args.deadline, c.args.number) (listed t) at row now in_due free c.change.ensures.2 runs (ap (λ r. is_running r.stage) becomes) c.self.invariant.5 in (
      c.add.ensures ∙ ((λ k. slice_set (c.self.invariant.0 k) (sym place k) (sym held k)) ∙ (sym (deadline_set t.rows (place_at t at) (Some now)) ∙ sym (ap (λ u. deadlines u.rows) c.change.ensures.4))),
      subst (λ l. Ascending l) (sym c.change.ensures.5) (ascending_set (listed t) at row now c.change.ensures.2 (ap (λ r. r.number) becomes) c.self.invariant.1),
      subst (λ u. IsByKey (key_at u) c.self.inside.by_key.places.items) (sym rows) by,
      (let l = ap length c.change.ensures.5 in let m = length-set (listed t) at now in let k = c.self.invariant.3 in omega arith),
      (let l = ap length rows in let m = length-set t.rows p (Some now) in let k = c.self.invariant.4 in omega arith),
      ap (count_by is_some) c.add.ensures ∙ (counts ∙ sym (ap (count_by (λ row. not (is_running row.stage))) c.change.ensures.5)),
    )
