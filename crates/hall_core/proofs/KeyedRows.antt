-- The rows of a table whose places stand in the order of their keys.
use Rattle.std.proofs.Common.{◌≡◌, ℕ, zero, suc, Bool, true, false, cond, List, [], ◌∷◌, replicate, bytes_eq, slice_get, slice_set, find, Option, Some, None, refl, sym, ap, ◌∙◌}
use Rattle.std.proofs.lemmas.Slice.Eq.{bytes_eq-Decides}
use Rattle.row_table.specs.Table.{Table, listed, row_at}
use mathlib.Core.Logic.{dite}
use native.Mathlib.Decide.{ℕ_discrete}
use Rattle.row_table.proofs.Listed.{placed}
use Rattle.row_table.proofs.Places.{row_other, row_same, row_within}
use Rattle.hall_core.specs.declared.Key.{Key}
use Rattle.hall_core.specs.declared.row.Row.{Row}
use Rattle.hall_core.specs.State.{has_key, is_running, same_key, waits}
use Rattle.hall_core.specs.Found.{Ascending, IsAt}
use Rattle.hall_core.specs.Keys.{IsByKey, IsKeyFree, key_at, key_of}
use Rattle.hall_core.proofs.KeyOrder.{one_stand}
use Rattle.hall_core.proofs.Numbers.{at_number}
use Rattle.hall_core.proofs.Places.{none_passes}

-- a test of keys tells whether they are one
both_true : (a b : Bool) → cond a b false ≡ true → (a ≡ true) × (b ≡ true)
both_true true b h = (refl, h)
both_true false b h = absurd (let k : false ≡ true = h in cc)

same_is_one : (a b : Key) → same_key a b ≡ true → a ≡ b
same_is_one a b h =
    let both = both_true _ _ h in
    let app = (bytes_eq-Decides a.app b.app).0 both.0 in let id = (bytes_eq-Decides a.id b.id).0 both.1 in
    (λ i. record { app = app i; id = id i })

same_itself : (a : Key) → same_key a a ≡ true
same_itself a =
    ap (λ z. cond z (same_id a) false) ((bytes_eq-Decides a.app a.app).1 refl) ∙ (bytes_eq-Decides a.id a.id).1 refl
  where
    same_id : Key → Bool
    same_id a = bytes_eq a.id a.id

not_true : (b : Bool) → (b ≡ true → ⊥) → b ≡ false
not_true true n = absurd (n refl)
not_true false n = refl

module _ {P : Type 0} where
  pub keyed_is : (key : Key) (row : Row P) → has_key key row ≡ true → row.key ≡ key
  keyed_is key row h = same_is_one row.key key h

  pub keyed : (key : Key) (row : Row P) → row.key ≡ key → has_key key row ≡ true
  keyed key row e = ap (λ z. same_key z key) e ∙ same_itself key

  waits_keyed : (key : Key) (row : Row P) → waits key row ≡ true → has_key key row ≡ true
  waits_keyed key row h = go (is_running row.stage) h
    where
      go : (b : Bool) → cond b false (has_key key row) ≡ true → has_key key row ≡ true
      go true h = absurd (let k : false ≡ true = h in cc)
      go false h = h

  pub some_key : (o : Option (Row P)) (key : Key) → key_of o ≡ Some key → (row : Row P) × (o ≡ Some row) × (row.key ≡ key)
  some_key None key e = absurd (let k : None ≡ Some key = e in cc)
  some_key (Some row) key e = (row, refl, (let k : Some row.key ≡ Some key = e in cc))

  module _ (t : Table (Row P)) (places : List ℕ) (by : IsByKey (key_at t.rows) places) where
    -- two rows of one key are one
    one_keyed : (i j : ℕ) (a b : Row P) → slice_get (listed t) i ≡ Some a → slice_get (listed t) j ≡ Some b → b.key ≡ a.key → b ≡ a
    one_keyed i j a b at at' same =
        let p = placed t.rows t.order i a at in let q = placed t.rows t.order j b at' in
        let h = ap key_of p.1 in let h' = ap key_of q.1 ∙ ap Some same in
        let s = by.found p.0 a.key h in let s' = by.found q.0 a.key h' in
        let one = one_stand (key_at t.rows) places s.0 s'.0 p.0 q.0 a.key by s.1 s'.1 h h' in
        let place : Some p.0 ≡ Some q.0 = sym s.1 ∙ (ap (slice_get places) one ∙ s'.1) in
        let same_place : p.0 ≡ q.0 = cc in
        let row : Some b ≡ Some a = sym q.1 ∙ (ap (row_at t.rows) (sym same_place) ∙ p.1) in cc

    pub key_first : (key : Key) (i : ℕ) (row : Row P) → Ascending (listed t) → slice_get (listed t) i ≡ Some row → row.key ≡ key → IsAt (has_key key) (listed t) i row
    key_first key i row up at is = at_number (has_key key) (listed t) i row up at (keyed key row is)
        (λ k y e h. ap (λ r. r.number) (one_keyed i k row y at e (keyed_is key y h ∙ sym is)))

    -- where the row of a key is parked, it is the one that waits
    pub waits_first : (key : Key) (i : ℕ) (row : Row P) → Ascending (listed t) → slice_get (listed t) i ≡ Some row → has_key key row ≡ true → is_running row.stage ≡ false → IsAt (waits key) (listed t) i row
    waits_first key i row up at is parked = at_number (waits key) (listed t) i row up at (ap (λ b. cond b false (has_key key row)) parked ∙ is)
        (λ k y e h. ap (λ r. r.number) (one_keyed i k row y at e (keyed_is key y (waits_keyed key y h) ∙ sym (keyed_is key row is))))

    -- where it runs, none waits
    pub runs_none : (key : Key) (i : ℕ) (row : Row P) → slice_get (listed t) i ≡ Some row → has_key key row ≡ true → is_running row.stage ≡ true → find (waits key) (listed t) ≡ None
    runs_none key i row at is running = none_passes (waits key) (listed t)
        (λ k y e. not_true (waits key y) (λ h.
        (let one = one_keyed i k row y at e (keyed_is key y (waits_keyed key y h) ∙ sym (keyed_is key row is)) in
        let no : false ≡ true = sym (ap (λ b. cond b false (has_key key row)) running) ∙ (ap (waits key) (sym one) ∙ h) in cc)))

  pub free_none : (t : Table (Row P)) (key : Key) → IsKeyFree (key_at t.rows) key → find (has_key key) (listed t) ≡ None
  free_none t key free = none_passes (has_key key) (listed t)
      (λ k y e. not_true (has_key key y) (λ h. let p = placed t.rows t.order k y e in free p.0 (ap key_of p.1 ∙ ap Some (keyed_is key y h))))

  no_first : (test : Row P → Bool) (y : Row P) (ys : List (Row P)) → find test (y ∷ ys) ≡ None → (test y ≡ false) × (find test ys ≡ None)
  no_first test y ys none = go (test y) refl
    where
      go : (b : Bool) → test y ≡ b → (test y ≡ false) × (find test ys ≡ None)
      go true t = absurd (let k : Some y ≡ None = sym (ap (λ b. cond b (Some y) (find test ys)) t) ∙ none in cc)
      go false t = (t, sym (ap (λ b. cond b (Some y) (find test ys)) t) ∙ none)

  none_false : (test : Row P → Bool) (rows : List (Row P)) (i : ℕ) (row : Row P) → find test rows ≡ None → slice_get rows i ≡ Some row → test row ≡ false
  none_false test [] i row none e = absurd (let k : None ≡ Some row = e in cc)
  none_false test (y ∷ ys) zero row none e = let is : y ≡ row = (let k : Some y ≡ Some row = e in cc) in sym (ap test is) ∙ (no_first test y ys none).0
  none_false test (y ∷ ys) (suc i) row none e = none_false test ys i row (no_first test y ys none).1 e

  -- where no row has a key, none waits under it
  pub none_waits : (key : Key) (rows : List (Row P)) → find (has_key key) rows ≡ None → find (waits key) rows ≡ None
  none_waits key rows none = none_passes (waits key) rows
      (λ k y e. not_true (waits key y) (λ h. let no : false ≡ true = sym (none_false (has_key key) rows k y none e) ∙ waits_keyed key y h in cc))

  pub none_free : (t : Table (Row P)) (key : Key) → ((p : ℕ) (x : Row P) → row_at t.rows p ≡ Some x → (i : ℕ) × (slice_get (listed t) i ≡ Some x)) → find (has_key key) (listed t) ≡ None → IsKeyFree (key_at t.rows) key
  none_free t key every none p h =
      let row = some_key (row_at t.rows p) key h in let at = every p row.0 row.1 in
      (let no : false ≡ true = sym (none_false (has_key key) (listed t) at.0 row.0 none at.1) ∙ keyed key row.0 row.2 in cc)

  -- a row that changes and keeps its key
  pub same_keys : (rows : List (Option (Row P))) (p : ℕ) (row now : Row P) → row_at rows p ≡ Some row → now.key ≡ row.key → (q : ℕ) → key_at (slice_set rows p (Some now)) q ≡ key_at rows q
  same_keys rows p row now held same q = dite (ℕ_discrete q p)
      (λ e. ap (key_at (slice_set rows p (Some now))) e ∙ (ap key_of (row_same rows p (Some now) (row_within rows p row held)) ∙ (ap Some same ∙ (sym (ap key_of held) ∙ sym (ap (key_at rows) e)))))
      (λ n. ap key_of (row_other rows p q (Some now) n))

fresh_none : (P : Type 0) (n p : ℕ) → key_at {P = P} (replicate n None) p ≡ None
fresh_none P zero p = refl
fresh_none P (suc n) zero = refl
fresh_none P (suc n) (suc p) = fresh_none P n p

pub fresh_by_key : (P : Type 0) (n : ℕ) → IsByKey (key_at {P = P} (replicate n None)) []
fresh_by_key P n = record {
  held = λ i p at. absurd (let k : None ≡ Some p = at in cc);
  found = λ p key h. absurd (let k : None ≡ Some key = sym (fresh_none P n p) ∙ h in cc);
  rising = λ i j p q a b at. absurd (let k : None ≡ Some p = at in cc);
}
