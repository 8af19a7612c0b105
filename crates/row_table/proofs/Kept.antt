-- Each call keeps what a table keeps.
use Rattle.std.proofs.Common.{◌≡◌, ◌≢◌, ℕ, zero, suc, ◌+◌, ◌<◌, ◌≤◌, List, [], ◌∷◌, ◌++◌, set, remove, slice_get, length, length-append, length-set, replicate, Option, Some, None, refl, sym, ap, ◌∙◌, subst, ⊎_elim, arith}
use Rattle.std.proofs.lemmas.Option.{slice_get_within}
use mathlib.Core.Logic.{dite}
use native.Mathlib.Decide.{ℕ_discrete}
use Rattle.row_table.specs.Table.{row_at}
use Rattle.row_table.specs.Keeping.{IsTable}
use Rattle.row_table.proofs.Places.{at_front, at_last, at_removed, at_snoc, row_other, row_same, row_within, shift, shift_apart, shift_once, shifted}

pub one_some : {A : Type 0} (a b : A) → Some a ≡ Some b → a ≡ b
one_some a b e = cc

pub length_removed : {A : Type 0} (xs : List A) (i : ℕ) → i < length xs → length (remove xs i) + 1 ≡ length xs
length_removed [] i lt = absurd (omega arith)
length_removed (x ∷ xs) zero lt = omega arith
length_removed (x ∷ xs) (suc i) lt = let r = length_removed xs i (omega arith) in omega arith

module _ {A : Type 0} (rows : List (Option A)) where
  -- a place that is free is none of the order
  pub was_away : (order free : List ℕ) (p : ℕ) → IsTable rows order (free ++ p ∷ []) → (i q : ℕ) → slice_get order i ≡ Some q → q ≢ p
  was_away order free p t i q h e =
      (let last = t.empty (length free) p (at_last free p) in let y = t.taken i q h in let n : None ≡ Some y.0 = sym last.1 ∙ (ap (row_at rows) (sym e) ∙ y.1) in cc)

  -- a row is put at the place that was free last
  pub entered : (order free : List ℕ) (p : ℕ) (x : A) → IsTable rows order (free ++ p ∷ []) → IsTable (set rows p (Some x)) (order ++ p ∷ []) free
  entered order free p x t =
      let last = t.empty (length free) p (at_last free p) in
      let same : row_at (set rows p (Some x)) p ≡ Some x = row_same rows p (Some x) last.0 in
      let away : (i q : ℕ) → slice_get order i ≡ Some q → q ≢ p = was_away order free p t in
      let apart : (i q : ℕ) → slice_get free i ≡ Some q → q ≢ p = λ i q h e. (let z = t.free_once i (length free) p (at_front free (p ∷ []) i p (h ∙ ap Some e)) (at_last free p) in let w = slice_get_within free i q h in omega arith) in
      record {
        small = (let l = length-set rows p (Some x) in let s = t.small in omega arith);
        count = (let l = length-set rows p (Some x) in let a = length-append order (p ∷ []) in let b = length-append free (p ∷ []) in let c = t.count in omega arith);
        taken = λ i q h. ⊎_elim
            (λ old. let y = t.taken i q old in (y.0, row_other rows p q (Some x) (away i q old) ∙ y.1))
            (λ new. (x, ap (row_at (set rows p (Some x))) (sym new.1) ∙ same))
            (at_snoc order p q i h);
        empty = λ i q h. (let y = t.empty i q (at_front free (p ∷ []) i q h) in
            (let l = length-set rows p (Some x) in let lt = y.0 in omega arith, row_other rows p q (Some x) (apart i q h) ∙ y.1));
        found = λ q y h. dite (ℕ_discrete q p)
            (λ e. (length order, at_last order p ∙ ap Some (sym e)))
            (λ n. let f = t.found q y (sym (row_other rows p q (Some x) n) ∙ h) in (f.0, at_front order (p ∷ []) f.0 q f.1));
        order_once = λ i j q a b. ⊎_elim
            (λ a'. ⊎_elim (λ b'. t.order_once i j q a' b') (λ b'. absurd (away i q a' (sym b'.1))) (at_snoc order p q j b))
            (λ a'. ⊎_elim (λ b'. absurd (away j q b' (sym a'.1))) (λ b'. a'.0 ∙ sym b'.0) (at_snoc order p q j b))
            (at_snoc order p q i a);
        free_once = λ i j q a b. t.free_once i j q (at_front free (p ∷ []) i q a) (at_front free (p ∷ []) j q b);
      }

  -- the place that is taken out of the order is none of what is left of it
  pub out_of_order : (order free : List ℕ) (i p : ℕ) → slice_get order i ≡ Some p → IsTable rows order free → (j q : ℕ) → slice_get (remove order i) j ≡ Some q → q ≢ p
  out_of_order order free i p at t j q h e = shift_apart i j (t.order_once (shift i j) i p (sym (at_removed order i j) ∙ (h ∙ ap Some e)) at)

  -- the row that stands there in the order goes, and its place is free
  pub taken_out : (order free : List ℕ) (i p : ℕ) → slice_get order i ≡ Some p → IsTable rows order free → IsTable (set rows p None) (remove order i) (free ++ p ∷ [])
  taken_out order free i p at t =
      let x = t.taken i p at in let inside = row_within rows p x.0 x.1 in
      let same : row_at (set rows p None) p ≡ None = row_same rows p None inside in
      let was : (j q : ℕ) → slice_get (remove order i) j ≡ Some q → slice_get order (shift i j) ≡ Some q = λ j q h. sym (at_removed order i j) ∙ h in
      let away : (j q : ℕ) → slice_get (remove order i) j ≡ Some q → q ≢ p = out_of_order order free i p at t in
      let apart : (j q : ℕ) → slice_get free j ≡ Some q → q ≢ p = λ j q h e. (let y = t.empty j q h in let n : None ≡ Some x.0 = sym y.1 ∙ (ap (row_at rows) e ∙ x.1) in cc) in
      record {
        small = (let l = length-set rows p None in let s = t.small in omega arith);
        count = (let l = length-set rows p None in let a = length_removed order i (slice_get_within order i p at) in let b = length-append free (p ∷ []) in let c = t.count in omega arith);
        taken = λ j q h. (let y = t.taken (shift i j) q (was j q h) in (y.0, row_other rows p q None (away j q h) ∙ y.1));
        empty = λ j q h. ⊎_elim
            (λ old. let y = t.empty j q old in (let l = length-set rows p None in let lt = y.0 in omega arith, row_other rows p q None (apart j q old) ∙ y.1))
            (λ new. (subst (λ (k : ℕ). k < length (set rows p None)) new.1 (let l = length-set rows p None in omega arith), ap (row_at (set rows p None)) (sym new.1) ∙ same))
            (at_snoc free p q j h);
        found = λ q y h.
            (let apart_p : q ≢ p = λ e. (let n : None ≡ Some y = sym same ∙ (ap (row_at (set rows p None)) (sym e) ∙ h) in cc) in
            let f = t.found q y (sym (row_other rows p q None apart_p) ∙ h) in
            let s = shifted i f.0 (λ e. apart_p (one_some q p (sym f.1 ∙ (ap (slice_get order) e ∙ at)))) in
            (s.0, at_removed order i s.0 ∙ (ap (slice_get order) s.1 ∙ f.1)));
        order_once = λ j k q a b. shift_once i j k (t.order_once (shift i j) (shift i k) q (was j q a) (was k q b));
        free_once = λ j k q a b. ⊎_elim
            (λ a'. ⊎_elim (λ b'. t.free_once j k q a' b') (λ b'. absurd (apart j q a' (sym b'.1))) (at_snoc free p q k b))
            (λ a'. ⊎_elim (λ b'. absurd (apart k q b' (sym a'.1))) (λ b'. a'.0 ∙ sym b'.0) (at_snoc free p q k b))
            (at_snoc free p q j a);
      }

  -- another row stands at a place that held one
  pub replaced : (order free : List ℕ) (i p : ℕ) (y : A) → slice_get order i ≡ Some p → IsTable rows order free → IsTable (set rows p (Some y)) order free
  replaced order free i p y at t =
      let x = t.taken i p at in let inside = row_within rows p x.0 x.1 in
      let same : row_at (set rows p (Some y)) p ≡ Some y = row_same rows p (Some y) inside in
      let apart : (j q : ℕ) → slice_get free j ≡ Some q → q ≢ p = λ j q h e. (let z = t.empty j q h in let n : None ≡ Some x.0 = sym z.1 ∙ (ap (row_at rows) e ∙ x.1) in cc) in
      record {
        small = (let l = length-set rows p (Some y) in let s = t.small in omega arith);
        count = (let l = length-set rows p (Some y) in let c = t.count in omega arith);
        taken = λ j q h. dite (ℕ_discrete q p)
            (λ e. (y, ap (row_at (set rows p (Some y))) e ∙ same))
            (λ n. let z = t.taken j q h in (z.0, row_other rows p q (Some y) n ∙ z.1));
        empty = λ j q h. (let z = t.empty j q h in (let l = length-set rows p (Some y) in let lt = z.0 in omega arith, row_other rows p q (Some y) (apart j q h) ∙ z.1));
        found = λ q z h. dite (ℕ_discrete q p)
            (λ e. (i, at ∙ ap Some (sym e)))
            (λ n. t.found q z (sym (row_other rows p q (Some y) n) ∙ h));
        order_once = t.order_once;
        free_once = t.free_once;
      }

-- a new table: the places up to n are free
pub record Fresh {A : Type 0} (n : ℕ) (rows : List (Option A)) (free : List ℕ) : Type 0 where
  pub rows_count : length rows ≡ n
  pub free_count : length free ≡ n
  pub none : (p : ℕ) → row_at rows p ≡ None
  pub own_place : (i p : ℕ) → slice_get free i ≡ Some p → p ≡ i

module _ {A : Type 0} where
  pub fresh_none : Fresh {A = A} 0 [] []
  fresh_none = record { rows_count = omega arith; free_count = omega arith; none = λ p. refl; own_place = λ i p e. absurd (let k : None ≡ Some p = e in cc) }

  none_more : (rows : List (Option A)) → ((p : ℕ) → row_at rows p ≡ None) → (p : ℕ) → row_at (rows ++ None ∷ []) p ≡ None
  none_more [] h zero = refl
  none_more [] h (suc p) = refl
  none_more (o ∷ rows) h zero = h 0
  none_more (o ∷ rows) h (suc p) = none_more rows (λ q. h (suc q)) p

  pub fresh_more : (n : ℕ) (rows rows' : List (Option A)) (free free' : List ℕ) → Fresh n rows free → rows' ≡ rows ++ None ∷ [] → free' ≡ free ++ n ∷ [] → Fresh (n + 1) rows' free'
  fresh_more n rows rows' free free' f is is' = record {
    rows_count = ap length is ∙ (length-append rows (None ∷ []) ∙ ap (λ (k : ℕ). k + 1) f.rows_count);
    free_count = ap length is' ∙ (length-append free (n ∷ []) ∙ ap (λ (k : ℕ). k + 1) f.free_count);
    none = λ p. ap (λ (l : List (Option A)). row_at l p) is ∙ none_more rows f.none p;
    own_place = λ i p e. ⊎_elim (λ old. f.own_place i p old) (λ new. sym new.1 ∙ (sym f.free_count ∙ sym new.0)) (at_snoc free n p i (subst (λ (l : List ℕ). slice_get l i ≡ Some p) is' e));
  }

  pub fresh_table : (n : ℕ) (rows : List (Option A)) (free : List ℕ) → n ≤ 4294967295 → Fresh n rows free → IsTable rows [] free
  fresh_table n rows free le f = record {
    small = (let c = f.rows_count in omega arith);
    count = (let c = f.rows_count in let d = f.free_count in omega arith);
    taken = λ i p e. absurd (let k : None ≡ Some p = e in cc);
    empty = λ i p e. (let c = f.rows_count in let d = f.free_count in let w = slice_get_within free i p e in let o = f.own_place i p e in omega arith, f.none p);
    found = λ p x e. absurd (let k : None ≡ Some x = sym (f.none p) ∙ e in cc);
    order_once = λ i j p a b. absurd (let k : None ≡ Some p = a in cc);
    free_once = λ i j p a b. sym (f.own_place i p a) ∙ f.own_place j p b;
  }

  pub fresh_rows : (n : ℕ) (rows : List (Option A)) (free : List ℕ) → Fresh n rows free → rows ≡ replicate n None
  fresh_rows n rows free f = all_none rows n f.rows_count f.none
    where
      all_none : (rows : List (Option A)) (n : ℕ) → length rows ≡ n → ((p : ℕ) → row_at rows p ≡ None) → rows ≡ replicate n None
      all_none [] zero e h = refl
      all_none [] (suc n) e h = absurd (omega arith)
      all_none (o ∷ rows) zero e h = absurd (omega arith)
      all_none (o ∷ rows) (suc n) e h = λ k. h 0 k ∷ all_none rows n (omega arith) (λ p. h (suc p)) k
