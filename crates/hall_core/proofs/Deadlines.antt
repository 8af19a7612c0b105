-- The deadlines by place, and what is due first of all rows where the least of them is known.
use Rattle.std.proofs.Common.{◌≡◌, ℕ, zero, suc, ◌<◌, ◌≤◌, Bool, true, false, cond, not, ◌||◌, nat_lt, nat_le, List, [], ◌∷◌, length, replicate, slice_get, slice_set, find, Option, Some, None, refl, sym, ap, ◌∙◌, arith, tests}
use Rattle.std.specs.List.{list_any}
use Rattle.row_table.specs.Table.{Table, listed, row_at}
use Rattle.row_table.proofs.Listed.{placed}
use Rattle.due_index.specs.Due as index
use Rattle.hall_core.specs.declared.row.Row.{Row}
use Rattle.hall_core.specs.declared.row.Stage.{Stage}
use Rattle.hall_core.specs.declared.row.Stage.TheVariants.{Running, Parked}
use Rattle.hall_core.specs.State.{is_before, goes_before, is_first_of, is_next, due, due_as, IsQuiet}
use Rattle.hall_core.specs.Deadlines.{deadline_of, deadlines, until}
use Rattle.hall_core.specs.Found.{Ascending, IsAt}
use Rattle.hall_core.proofs.Places.{none_passes}
use Rattle.hall_core.proofs.Numbers.{at_number, one_row}

module _ {P : Type 0} where
  pub deadline_read : (rows : List (Option (Row P))) (p : ℕ) → index.held_at (deadlines rows) p ≡ deadline_of (row_at rows p)
  deadline_read [] p = refl
  deadline_read (o ∷ os) zero = refl
  deadline_read (o ∷ os) (suc p) = deadline_read os p

  pub deadline_set : (rows : List (Option (Row P))) (p : ℕ) (o : Option (Row P)) → deadlines (slice_set rows p o) ≡ slice_set (deadlines rows) p (deadline_of o)
  deadline_set [] p o = refl
  deadline_set (x ∷ xs) zero o = refl
  deadline_set (x ∷ xs) (suc p) o = ap (λ l. deadline_of x ∷ l) (deadline_set xs p o)

  pub deadline_length : (rows : List (Option (Row P))) → length (deadlines rows) ≡ length rows
  deadline_length [] = refl
  deadline_length (o ∷ os) = ap suc (deadline_length os)

pub deadline_fresh : (P : Type 0) (n : ℕ) → deadlines {P = P} (replicate n None) ≡ replicate n None
deadline_fresh P zero = refl
deadline_fresh P (suc n) = ap (λ l. None ∷ l) (deadline_fresh P n)

pub set_none : (held : List (Option (ℕ × ℕ))) (p : ℕ) → index.held_at held p ≡ None → slice_set held p None ≡ held
set_none [] p e = refl
set_none (x ∷ xs) zero e = ap (λ o. o ∷ xs) (sym e)
set_none (x ∷ xs) (suc p) e = ap (λ l. x ∷ l) (set_none xs p e)

-- a deadline after the moment is none that has come
not_come : (d now least : ℕ) → now < least → (nat_lt d least ≡ false) → nat_le d now ≡ false
not_come d now least lt h = grind (arith, tests)

before_less : (d n q : ℕ) (least : index.Due) → index.is_before (d, n, q) least ≡ false → nat_lt d least.0 ≡ false
before_less d n q least h = grind (arith, tests)

before_pair : (d n q : ℕ) (least : index.Due) → index.is_before (d, n, q) least ≡ false → is_before (d, n) (least.0, least.1) ≡ false
before_pair d n q least h = grind (arith, tests)

neither_before : (a b : ℕ × ℕ) → is_before a b ≡ false → is_before b a ≡ false → a.1 ≡ b.1
neither_before a b h k = grind (arith, tests)

not_true : (b : Bool) → not b ≡ true → b ≡ false
not_true true h = absurd (let k : false ≡ true = h in cc)
not_true false h = refl

module _ {A : Type 0} where
  any_true : (test : A → Bool) (xs : List A) (i : ℕ) (x : A) → slice_get xs i ≡ Some x → test x ≡ true → list_any test xs ≡ true
  any_true test [] i x e t = absurd (let k : None ≡ Some x = e in cc)
  any_true test (y ∷ ys) zero x e t = let k : y ≡ x = cc in ap (λ b. b || list_any test ys) (ap test k ∙ t)
  any_true test (y ∷ ys) (suc i) x e t = let r = any_true test ys i x e t in go (test y) refl r
    where
      go : (b : Bool) → test y ≡ b → list_any test ys ≡ true → list_any test (y ∷ ys) ≡ true
      go true e r = ap (λ b. b || list_any test ys) e
      go false e r = ap (λ b. b || list_any test ys) e ∙ r

  any_false : (test : A → Bool) (xs : List A) → ((i : ℕ) (x : A) → slice_get xs i ≡ Some x → test x ≡ false) → list_any test xs ≡ false
  any_false test [] h = refl
  any_false test (y ∷ ys) h = let a = h 0 y refl in let r = any_false test ys (λ i. h (suc i)) in ap (λ b. b || list_any test ys) a ∙ r

  none_any : (test : A → Bool) (xs : List A) (i : ℕ) (x : A) → slice_get xs i ≡ Some x → list_any test xs ≡ false → test x ≡ false
  none_any test xs i x e none = go (test x) refl
    where
      go : (b : Bool) → test x ≡ b → test x ≡ false
      go true t = absurd (let k : false ≡ true = sym none ∙ any_true test xs i x e t in cc)
      go false t = t

module _ {P : Type 0} where
  -- nothing parked at this stage comes before the least
  abbrev NotBefore : ℕ → ℕ → Stage P → index.Due → Type 0
  NotBefore n q stage least = (d : ℕ) → until n stage ≡ Some (d, n) → index.is_before (d, n, q) least ≡ false

  no_until : (now n : ℕ) (stage : Stage P) → until n stage ≡ None → due_as now n stage ≡ None
  no_until now n Running e = refl
  no_until now n (Parked d value) e = absurd (let k : Some (d, n) ≡ None = e in cc)

  late_due : (now n q : ℕ) (stage : Stage P) (least : index.Due) → NotBefore n q stage least → now < least.0 → due_as now n stage ≡ None
  late_due now n q Running least h lt = refl
  late_due now n q (Parked d value) least h lt = ap (λ b. cond b (Some (d, n)) None) (not_come d now least.0 lt (before_less d n q least (h d refl)))

  not_sooner : (now n q : ℕ) (stage : Stage P) (least : index.Due) → NotBefore n q stage least → goes_before (least.0, least.1) (due_as now n stage) ≡ false
  not_sooner now n q Running least h = refl
  not_sooner now n q (Parked d value) least h = go (nat_le d now)
    where
      go : (b : Bool) → goes_before (least.0, least.1) (cond b (Some (d, n)) None) ≡ false
      go true = before_pair d n q least (h d refl)
      go false = refl

  due_until : (now n : ℕ) (stage : Stage P) (held : ℕ × ℕ) → until n stage ≡ Some held → held.0 ≤ now → (due_as now n stage ≡ Some held) × (n ≡ held.1)
  due_until now n Running held e le = absurd (let k : None ≡ Some held = e in cc)
  due_until now n (Parked d value) held e le =
      let is : (d, n) ≡ held = (let k : Some (d, n) ≡ Some held = e in cc) in
      let come : nat_le d now ≡ true = (let z : d ≡ held.0 = ap (λ h. h.0) is in grind (arith, tests)) in
      (ap (λ b. cond b (Some (d, n)) None) come ∙ e, ap (λ h. h.1) is)

  -- what is first of all has the number of the least
  only_least : (rows : List (Row P)) (now n q : ℕ) (stage : Stage P) (least : index.Due) (i : ℕ) (x : Row P) → slice_get rows i ≡ Some x → due now x ≡ Some (least.0, least.1)
      → NotBefore n q stage least → is_first_of rows now (due_as now n stage) ≡ true → n ≡ least.1
  only_least rows now n q Running least i x at is h first = absurd (let k : false ≡ true = first in cc)
  only_least rows now n q (Parked d value) least i x at is h first = go (nat_le d now) refl
    where
      go : (b : Bool) → nat_le d now ≡ b → n ≡ least.1
      go true t =
          let none = not_true (list_any (λ other. goes_before (d, n) (due now other)) rows) (sym (ap (λ b. is_first_of rows now (cond b (Some (d, n)) None)) t) ∙ first) in
          let other = none_any (λ other. goes_before (d, n) (due now other)) rows i x at none in
          neither_before (d, n) (least.0, least.1) (before_pair d n q least (h d refl)) (sym (ap (goes_before (d, n)) is) ∙ other)
      go false t = absurd (let k : false ≡ true = sym (ap (λ b. is_first_of rows now (cond b (Some (d, n)) None)) t) ∙ first in cc)

  some_row : (o : Option (Row P)) (held : ℕ × ℕ) → deadline_of o ≡ Some held → (row : Row P) × (o ≡ Some row) × (until row.number row.stage ≡ Some held)
  some_row None held e = absurd (let k : None ≡ Some held = e in cc)
  some_row (Some row) held e = (row, refl, e)

  module _ (t : Table (Row P)) (held : index.Held) (same : held ≡ deadlines t.rows) where
    at_place : (p : ℕ) → index.held_at held p ≡ deadline_of (row_at t.rows p)
    at_place p = ap (λ h. index.held_at h p) same ∙ deadline_read t.rows p

    -- a row that is listed is not before the least
    row_not_before : (least : index.Due) → index.IsLeast held (Some least) → (i : ℕ) (row : Row P) → slice_get (listed t) i ≡ Some row → (q : ℕ) × NotBefore row.number q row.stage least
    row_not_before least l i row at = let q = placed t.rows t.order i row at in (q.0, λ d e. l.1 (d, row.number, q.0) (at_place q.0 ∙ (ap deadline_of q.1 ∙ e)))

    pub quiet_none : (now : ℕ) → index.IsLeast held None → IsQuiet (listed t) now
    quiet_none now l i row at = let q = placed t.rows t.order i row at in no_until now row.number row.stage (sym (ap deadline_of q.1) ∙ (sym (at_place q.0) ∙ l q.0))

    pub quiet_late : (now : ℕ) (least : index.Due) → index.IsLeast held (Some least) → now < least.0 → IsQuiet (listed t) now
    quiet_late now least l lt i row at = let q = row_not_before least l i row at in late_due now row.number q.0 row.stage least q.1 lt

    -- the row at the place of the least
    pub least_row : (least : index.Due) → index.IsLeast held (Some least) → (row : Row P) × (row_at t.rows least.2 ≡ Some row) × (until row.number row.stage ≡ Some (least.0, least.1))
    least_row least l = some_row (row_at t.rows least.2) (least.0, least.1) (sym (at_place least.2) ∙ l.0)

    pub next_at : (now : ℕ) (least : index.Due) (row x : Row P) (i k : ℕ) → Ascending (listed t) → index.IsLeast held (Some least) → least.0 ≤ now → row_at t.rows least.2 ≡ Some row
        → slice_get (listed t) k ≡ Some row → slice_get (listed t) i ≡ Some x → x.number ≡ row.number → IsAt (is_next now (listed t)) (listed t) i x
    next_at now least row x i k up l le there at_row at number =
        let w = least_row least l in
        let is_row : w.0 ≡ row = (let e : Some w.0 ≡ Some row = sym w.1 ∙ there in cc) in
        let is : x ≡ row = one_row (listed t) k i row x up at_row at (sym number) in
        let d = due_until now w.0.number w.0.stage (least.0, least.1) w.2 le in
        let due_x : due now x ≡ Some (least.0, least.1) = ap (due now) (is ∙ sym is_row) ∙ d.0 in
        let number_x : x.number ≡ least.1 = ap (λ z. z.number) (is ∙ sym is_row) ∙ d.1 in
        let none = any_false (λ other. goes_before (least.0, least.1) (due now other)) (listed t)
        (λ j y e. let q = row_not_before least l j y e in not_sooner now y.number q.0 y.stage least q.1) in
        at_number (is_next now (listed t)) (listed t) i x up at
        (ap (is_first_of (listed t) now) due_x ∙ ap not none)
        (λ j y e first. (let q = row_not_before least l j y e in only_least (listed t) now y.number q.0 y.stage least i x at due_x q.1 first ∙ sym number_x))

pub next_none : {P : Type 0} (rows : List (Row P)) (now : ℕ) → IsQuiet rows now → find (is_next now rows) rows ≡ None
next_none rows now quiet = none_passes (is_next now rows) rows (λ i row e. ap (is_first_of rows now) (quiet i row e))
