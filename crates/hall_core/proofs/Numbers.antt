-- Rows in the order of their numbers.
use Rattle.std.proofs.Common.{◌≡◌, ℕ, zero, suc, ◌+◌, ◌<◌, ◌≤◌, Bool, true, false, cond, List, [], ◌∷◌, ◌++◌, length, slice_get, slice_set, remove, Some, None, refl, sym, ap, ◌∙◌, subst, inl, inr, ⊎_elim, arith}
use Rattle.std.proofs.lemmas.Bool.{cases_lt}
use Rattle.std.proofs.lemmas.Option.{slice_get_within}
use Rattle.row_table.proofs.Places.{at_removed, at_snoc, shift, shift_less}
use Rattle.hall_core.specs.declared.row.Row.{Row}
use Rattle.hall_core.specs.Rows.{without, changed}
use Rattle.hall_core.specs.State.{parked, runs}
use Rattle.hall_core.specs.Step.{IsRunning}
use Rattle.hall_core.specs.Found.{Ascending, IsAt, IsSought, UpTo}
use Rattle.hall_core.specs.Moves.{runs_is}
use Rattle.hall_core.specs.Totals.{found_passes}
use Rattle.hall_core.proofs.Places.{first_at, found_place}

module _ {P : Type 0} where
  pub one_place : (rows : List (Row P)) (i j : ℕ) (a b : Row P) → Ascending rows → slice_get rows i ≡ Some a → slice_get rows j ≡ Some b → a.number ≡ b.number → i ≡ j
  one_place rows i j a b up at at' same = elim (cases_lt i j) [
    | inl lt ↦ absurd (let l = up i j a b at at' lt in omega arith)
    | inr ge ↦ elim (cases_lt j i) [
      | inl lt ↦ absurd (let l = up j i b a at' at lt in omega arith)
      | inr le ↦ omega arith
    ]
  ]

  pub one_row : (rows : List (Row P)) (i j : ℕ) (a b : Row P) → Ascending rows → slice_get rows i ≡ Some a → slice_get rows j ≡ Some b → a.number ≡ b.number → b ≡ a
  one_row rows i j a b up at at' same =
      let e : Some b ≡ Some a = sym at' ∙ (ap (slice_get rows) (sym (one_place rows i j a b up at at' same)) ∙ at) in cc

  -- where a row passes, and those that pass have its number, it is the first that passes
  pub at_number : (test : Row P → Bool) (rows : List (Row P)) (i : ℕ) (x : Row P) → Ascending rows → slice_get rows i ≡ Some x → test x ≡ true
      → ((k : ℕ) (y : Row P) → slice_get rows k ≡ Some y → test y ≡ true → y.number ≡ x.number) → IsAt test rows i x
  at_number test rows i x up at t only = first_at test rows i x at t (λ k y lt e. go k y lt e (test y) refl)
    where
      go : (k : ℕ) (y : Row P) → k < i → slice_get rows k ≡ Some y → (b : Bool) → test y ≡ b → test y ≡ false
      go k y lt e true is = absurd (let s = one_place rows k i y x up e at (only k y e is) in omega arith)
      go k y lt e false is = is

  -- the row with the number of one that runs is the one that runs
  pub running_at : (rows : List (Row P)) (n i : ℕ) → Ascending rows → IsRunning rows n → IsSought rows n (Some i) → (x : Row P) × IsAt (runs n) rows i x
  running_at rows n i up w s =
      let passes = found_passes (runs n) rows w.0 w.1 in let at = found_place (runs n) rows w.0 w.1 in
      let is : w.0 ≡ s.0 = one_row rows i at.0 s.0 w.0 up s.1 at.1 (s.2 ∙ sym (runs_is n w.0 passes)) in
      (s.0, at_number (runs n) rows i s.0 up s.1 (sym (ap (runs n) is) ∙ passes) (λ k y e t. runs_is n y t ∙ sym s.2))

  pub running_is_there : (rows : List (Row P)) (n : ℕ) → IsRunning rows n → IsSought rows n None → ⊥
  running_is_there rows n w s = let at = found_place (runs n) rows w.0 w.1 in s at.0 w.0 at.1 (runs_is n w.0 (found_passes (runs n) rows w.0 w.1))

  pub ascending_none : Ascending {P = P} []
  ascending_none i j a b e e' lt = absurd (let k : None ≡ Some a = e in cc)

  pub ascending_more : (rows : List (Row P)) (row : Row P) (n : ℕ) → Ascending rows → UpTo n rows → n < row.number → Ascending (rows ++ row ∷ [])
  ascending_more rows row n up most lt i j a b e e' less = ⊎_elim
      (λ old. ⊎_elim
      (λ old'. up i j a b old old' less)
      (λ new'. let m = most i a old in subst (λ (z : Row P). a.number < z.number) new'.1 (omega arith))
      (at_snoc rows row b j e'))
      (λ new. ⊎_elim
      (λ old'. absurd (let w = slice_get_within rows j b old' in let at = new.0 in omega arith))
      (λ new'. absurd (let at = new.0 in let at' = new'.0 in omega arith))
      (at_snoc rows row b j e'))
      (at_snoc rows row a i e)

  pub ascending_removed : (rows : List (Row P)) (i : ℕ) → Ascending rows → Ascending (remove rows i)
  ascending_removed rows i up j k a b e e' less = up (shift i j) (shift i k) a b (sym (at_removed rows i j) ∙ e) (sym (at_removed rows i k) ∙ e') (shift_less i j k less)

  -- what stands in a list with one row changed has the number that stood there
  set_number : (rows : List (Row P)) (i : ℕ) (x y : Row P) → slice_get rows i ≡ Some x → y.number ≡ x.number → (j : ℕ) (a : Row P) → slice_get (slice_set rows i y) j ≡ Some a
      → (b : Row P) × (slice_get rows j ≡ Some b) × (b.number ≡ a.number)
  set_number [] i x y at same j a e = absurd (let k : None ≡ Some x = at in cc)
  set_number (z ∷ rows) zero x y at same zero a e =
      let is : z ≡ x = (let k : Some z ≡ Some x = at in cc) in let is' : y ≡ a = (let k : Some y ≡ Some a = e in cc) in
      (z, refl, ap (λ r. r.number) is ∙ (sym same ∙ ap (λ r. r.number) is'))
  set_number (z ∷ rows) zero x y at same (suc j) a e = (a, e, refl)
  set_number (z ∷ rows) (suc i) x y at same zero a e = (a, e, refl)
  set_number (z ∷ rows) (suc i) x y at same (suc j) a e = set_number rows i x y at same j a e

  pub ascending_set : (rows : List (Row P)) (i : ℕ) (x y : Row P) → slice_get rows i ≡ Some x → y.number ≡ x.number → Ascending rows → Ascending (slice_set rows i y)
  ascending_set rows i x y at same up j k a b e e' less =
      let a' = set_number rows i x y at same j a e in let b' = set_number rows i x y at same k b e' in
      let l = up j k a'.0 b'.0 a'.1 b'.1 less in let q = a'.2 in let q' = b'.2 in omega arith

  pub up_to_more : (rows : List (Row P)) (row : Row P) (n m : ℕ) → UpTo n rows → n ≤ m → row.number ≤ m → UpTo m (rows ++ row ∷ [])
  up_to_more rows row n m most le last i a e = ⊎_elim
      (λ old. let l = most i a old in omega arith)
      (λ new. subst (λ (z : Row P). z.number ≤ m) new.1 last)
      (at_snoc rows row a i e)

  pub up_to_without : (test : Row P → Bool) (rows : List (Row P)) (n : ℕ) → UpTo n rows → UpTo n (without test rows)
  up_to_without test [] n most = most
  up_to_without test (x ∷ xs) n most = go (test x) (up_to_without test xs n (λ i. most (suc i)))
    where
      go : (b : Bool) → UpTo n (without test xs) → UpTo n (cond b xs (x ∷ without test xs))
      go true rest i row e = most (suc i) row e
      go false rest zero row e = most 0 row e
      go false rest (suc i) row e = rest i row e

  pub up_to_parked : (test : Row P → Bool) (deadline : ℕ) (value : P) (rows : List (Row P)) (n : ℕ) → UpTo n rows → UpTo n (changed test (parked deadline value) rows)
  up_to_parked test deadline value [] n most = most
  up_to_parked test deadline value (x ∷ xs) n most = go (test x) (up_to_parked test deadline value xs n (λ i. most (suc i)))
    where
      go : (b : Bool) → UpTo n (changed test (parked deadline value) xs) → UpTo n (cond b (parked deadline value x ∷ xs) (x ∷ changed test (parked deadline value) xs))
      go true rest zero row e = (let is : parked deadline value x ≡ row = (let k : Some (parked deadline value x) ≡ Some row = e in cc) in subst (λ (z : Row P). z.number ≤ n) is (most 0 x refl))
      go true rest (suc i) row e = most (suc i) row e
      go false rest zero row e = most 0 row e
      go false rest (suc i) row e = rest i row e

  -- what stands before low has a lesser number, and what stands at high or after it a greater one
  pub record IsCut (rows : List (Row P)) (n low high : ℕ) : Type 0 where
    pub within : high ≤ length rows
    pub below : (i : ℕ) (row : Row P) → slice_get rows i ≡ Some row → i < low → row.number < n
    pub above : (i : ℕ) (row : Row P) → slice_get rows i ≡ Some row → high ≤ i → n < row.number

  pub cut_all : (rows : List (Row P)) (n count : ℕ) → count ≡ length rows → IsCut rows n 0 count
  cut_all rows n count e = record {
    within = omega arith;
    below = λ i row at lt. absurd (omega arith);
    above = λ i row at le. absurd (let w = slice_get_within rows i row at in omega arith);
  }

  pub cut_low : (rows : List (Row P)) (n low high middle : ℕ) (row : Row P) → Ascending rows → IsCut rows n low high → slice_get rows middle ≡ Some row → row.number < n → IsCut rows n (middle + 1) high
  cut_low rows n low high middle row up cut at less = record {
    within = cut.within;
    below = λ i a e lt. elim (cases_lt i middle) [
      | inl before ↦ (let l = up i middle a row e at before in omega arith)
      | inr ge ↦ (let same : i ≡ middle = omega arith in let both : Some a ≡ Some row = sym e ∙ (ap (slice_get rows) same ∙ at) in let is : a ≡ row = cc in subst (λ (z : Row P). z.number < n) (sym is) less)
    ];
    above = cut.above;
  }

  pub cut_high : (rows : List (Row P)) (n low high middle : ℕ) (row : Row P) → Ascending rows → IsCut rows n low high → middle < high → slice_get rows middle ≡ Some row → n < row.number → IsCut rows n low middle
  cut_high rows n low high middle row up cut lt at more = record {
    within = (let w = cut.within in omega arith);
    below = cut.below;
    above = λ i a e le. elim (cases_lt middle i) [
      | inl before ↦ (let l = up middle i row a at e before in omega arith)
      | inr ge ↦ (let same : i ≡ middle = omega arith in let both : Some a ≡ Some row = sym e ∙ (ap (slice_get rows) same ∙ at) in let is : a ≡ row = cc in subst (λ (z : Row P). n < z.number) (sym is) more)
    ];
  }

  pub cut_none : (rows : List (Row P)) (n low high : ℕ) → IsCut rows n low high → high ≤ low → IsSought rows n None
  cut_none rows n low high cut le i row at same = elim (cases_lt i low) [
    | inl lt ↦ (let b = cut.below i row at lt in omega arith)
    | inr ge ↦ (let a = cut.above i row at (omega arith) in omega arith)
  ]
