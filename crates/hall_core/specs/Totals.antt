-- Sums over lists.
use Rattle.std.proofs.Common.{◌≡◌, ◌≢◌, ℕ, zero, suc, ◌+◌, ◌≤◌, Bool, true, false, cond, ◌⊎◌, List, [], ◌∷◌, ◌++◌, set, slice_get, find, Some, None, refl, sym, ap, ◌∙◌, inl, inr, ⊎_elim, arith}
use mathlib.Core.Option as maybe
use lib.ListN.{get_elem?}
use Rattle.hall_core.specs.Rows.{without, changed}
use Rattle.hall_core.specs.Kept.{total}

module _ {A : Type 0} where
  pub total_set : (f : A → ℕ) (xs : List A) (i : ℕ) (a b : A) → get_elem? xs i ≡ maybe.some a → total f (set xs i b) + f a ≡ total f xs + f b
  total_set f [] i a b e = absurd (maybe.some-ne-none a (sym e))
  total_set f (x ∷ xs) zero a b e = let h : f x ≡ f a = ap f (maybe.some-injective x a e) in omega arith
  total_set f (x ∷ xs) (suc i) a b e = let h = total_set f xs i a b e in omega arith

  pub total_none : (f : A → ℕ) (xs : List A) → ((j : ℕ) (a : A) → get_elem? xs j ≡ maybe.some a → f a ≡ 0) → total f xs ≡ 0
  total_none f [] h = refl
  total_none f (x ∷ xs) h = let a = h 0 x refl in let b = total_none f xs (λ j. h (suc j)) in omega arith

  pub total_at : (f : A → ℕ) (xs : List A) (i : ℕ) (a : A) → get_elem? xs i ≡ maybe.some a → f a ≤ total f xs
  total_at f [] i a e = absurd (maybe.some-ne-none a (sym e))
  total_at f (x ∷ xs) zero a e = let h : f x ≡ f a = ap f (maybe.some-injective x a e) in omega arith
  total_at f (x ∷ xs) (suc i) a e = let h = total_at f xs i a e in omega arith

  pub total_snoc : (f : A → ℕ) (xs : List A) (a : A) → total f (xs ++ a ∷ []) ≡ total f xs + f a
  total_snoc f [] a = omega arith
  total_snoc f (x ∷ xs) a = let h = total_snoc f xs a in omega arith

  pub total_le : (f g : A → ℕ) (xs : List A) → ((a : A) → f a ≤ g a) → total f xs ≤ total g xs
  total_le f g [] h = omega arith
  total_le f g (x ∷ xs) h = let a = h x in let b = total_le f g xs h in omega arith

  -- where g is all at one place, and f is nothing where g is nothing, f is all there too
  pub alone : (f g : A → ℕ) (xs : List A) (i : ℕ) (a : A) → get_elem? xs i ≡ maybe.some a → total g xs ≡ g a → ((j : ℕ) (b : A) → get_elem? xs j ≡ maybe.some b → g b ≡ 0 → f b ≡ 0) → total f xs ≡ f a
  alone f g [] i a e s h = absurd (maybe.some-ne-none a (sym e))
  alone f g (x ∷ xs) zero a e s h =
      let p : f x ≡ f a = ap f (maybe.some-injective x a e) in let q : g x ≡ g a = ap g (maybe.some-injective x a e) in let z : total g xs ≡ 0 = omega arith in
      let none_left : total f xs ≡ 0 = total_none f xs (λ j b at. h (suc j) b at (let le = total_at g xs j b at in omega arith)) in omega arith
  alone f g (x ∷ xs) (suc i) a e s h =
      let le = total_at g xs i a e in let z : g x ≡ 0 = omega arith in let w : f x ≡ 0 = h 0 x refl z in
      let rest = alone f g xs i a e (omega arith) (λ j. h (suc j)) in omega arith

  pub at_set : (xs : List A) (i j : ℕ) (a b : A) → get_elem? (set xs i a) j ≡ maybe.some b → ((j ≡ i) × (a ≡ b)) ⊎ ((j ≢ i) × (get_elem? xs j ≡ maybe.some b))
  at_set [] i j a b e = absurd (maybe.some-ne-none b (sym e))
  at_set (x ∷ xs) zero zero a b e = inl (refl, maybe.some-injective a b e)
  at_set (x ∷ xs) zero (suc j) a b e = inr ((λ h. omega arith), e)
  at_set (x ∷ xs) (suc i) zero a b e = inr ((λ h. omega arith), e)
  at_set (x ∷ xs) (suc i) (suc j) a b e = ⊎_elim (λ t. inl (ap suc t.0, t.1)) (λ t. let n = t.0 in inr ((λ h. n (omega arith)), t.1)) (at_set xs i j a b e)

  pub at_snoc : (xs : List A) (a b : A) (j : ℕ) → get_elem? (xs ++ a ∷ []) j ≡ maybe.some b → (get_elem? xs j ≡ maybe.some b) ⊎ (a ≡ b)
  at_snoc [] a b zero e = inr (maybe.some-injective a b e)
  at_snoc [] a b (suc j) e = absurd (maybe.some-ne-none b (sym e))
  at_snoc (x ∷ xs) a b zero e = inl e
  at_snoc (x ∷ xs) a b (suc j) e = at_snoc xs a b j e

  pub set_else : (xs : List A) (i j : ℕ) (a : A) → j ≢ i → get_elem? (set xs i a) j ≡ get_elem? xs j
  set_else [] i j a n = refl
  set_else (x ∷ xs) zero zero a n = absurd (n refl)
  set_else (x ∷ xs) zero (suc j) a n = refl
  set_else (x ∷ xs) (suc i) zero a n = refl
  set_else (x ∷ xs) (suc i) (suc j) a n = set_else xs i j a (λ e. n (ap suc e))

  -- what goes with the first that passes a test, and what changes with it
  pub total_without : (f : A → ℕ) (test : A → Bool) (xs : List A) (x : A) → find test xs ≡ Some x → total f (without test xs) + f x ≡ total f xs
  total_without f test [] x e = absurd (let k : None ≡ Some x = e in cc)
  total_without f test (y ∷ ys) x e = go (test y) refl (total_without f test ys x)
    where
      go : (b : Bool) → test y ≡ b → (find test ys ≡ Some x → total f (without test ys) + f x ≡ total f ys) → total f (without test (y ∷ ys)) + f x ≡ f y + total f ys
      go true t rest =
          let l : total f (without test (y ∷ ys)) ≡ total f ys = ap (λ b. total f (cond b ys (y ∷ without test ys))) t in
          let same : Some y ≡ Some x = sym (ap (λ b. cond b (Some y) (find test ys)) t) ∙ e in let is : y ≡ x = cc in let v : f y ≡ f x = ap f is in omega arith
      go false t rest =
          let l : total f (without test (y ∷ ys)) ≡ f y + total f (without test ys) = ap (λ b. total f (cond b ys (y ∷ without test ys))) t in
          let r = rest (sym (ap (λ b. cond b (Some y) (find test ys)) t) ∙ e) in omega arith

  pub total_changed : (f : A → ℕ) (test : A → Bool) (change : A → A) (xs : List A) (x : A) → find test xs ≡ Some x → total f (changed test change xs) + f x ≡ total f xs + f (change x)
  total_changed f test change [] x e = absurd (let k : None ≡ Some x = e in cc)
  total_changed f test change (y ∷ ys) x e = go (test y) refl (total_changed f test change ys x)
    where
      go : (b : Bool) → test y ≡ b → (find test ys ≡ Some x → total f (changed test change ys) + f x ≡ total f ys + f (change x)) → total f (changed test change (y ∷ ys)) + f x ≡ f y + total f ys + f (change x)
      go true t rest =
          let l : total f (changed test change (y ∷ ys)) ≡ f (change y) + total f ys = ap (λ b. total f (cond b (change y ∷ ys) (y ∷ changed test change ys))) t in
          let same : Some y ≡ Some x = sym (ap (λ b. cond b (Some y) (find test ys)) t) ∙ e in let is : y ≡ x = cc in let v : f y ≡ f x = ap f is in let w : f (change y) ≡ f (change x) = ap (λ z. f (change z)) is in omega arith
      go false t rest =
          let l : total f (changed test change (y ∷ ys)) ≡ f y + total f (changed test change ys) = ap (λ b. total f (cond b (change y ∷ ys) (y ∷ changed test change ys))) t in
          let r = rest (sym (ap (λ b. cond b (Some y) (find test ys)) t) ∙ e) in omega arith

  -- where none passes, nothing goes
  pub total_stays : (f : A → ℕ) (test : A → Bool) (xs : List A) → find test xs ≡ None → total f (without test xs) ≡ total f xs
  total_stays f test [] e = refl
  total_stays f test (y ∷ ys) e = go (test y) refl (total_stays f test ys)
    where
      go : (b : Bool) → test y ≡ b → (find test ys ≡ None → total f (without test ys) ≡ total f ys) → total f (without test (y ∷ ys)) ≡ f y + total f ys
      go true t rest = absurd (let k : Some y ≡ None = sym (ap (λ b. cond b (Some y) (find test ys)) t) ∙ e in cc)
      go false t rest =
          let l : total f (without test (y ∷ ys)) ≡ f y + total f (without test ys) = ap (λ b. total f (cond b ys (y ∷ without test ys))) t in
          let r = rest (sym (ap (λ b. cond b (Some y) (find test ys)) t) ∙ e) in omega arith

  -- what is found passes
  pub found_passes : (test : A → Bool) (xs : List A) (x : A) → find test xs ≡ Some x → test x ≡ true
  found_passes test [] x e = absurd (let k : None ≡ Some x = e in cc)
  found_passes test (y ∷ ys) x e = go (test y) refl (found_passes test ys x)
    where
      go : (b : Bool) → test y ≡ b → (find test ys ≡ Some x → test x ≡ true) → test x ≡ true
      go true t rest = let same : Some y ≡ Some x = sym (ap (λ b. cond b (Some y) (find test ys)) t) ∙ e in let is : y ≡ x = cc in sym (ap test is) ∙ t
      go false t rest = rest (sym (ap (λ b. cond b (Some y) (find test ys)) t) ∙ e)

  -- where nothing is found, no item passes
  pub none_counted : (test : A → Bool) (xs : List A) → find test xs ≡ None → total (λ x. cond (test x) 1 0) xs ≡ 0
  none_counted test [] e = refl
  none_counted test (y ∷ ys) e = go (test y) refl (none_counted test ys)
    where
      go : (b : Bool) → test y ≡ b → (find test ys ≡ None → total (λ x. cond (test x) 1 0) ys ≡ 0) → cond (test y) 1 0 + total (λ x. cond (test x) 1 0) ys ≡ 0
      go true t rest = absurd (let k : Some y ≡ None = sym (ap (λ b. cond b (Some y) (find test ys)) t) ∙ e in cc)
      go false t rest = let l : cond {A = ℕ} (test y) 1 0 ≡ 0 = ap (λ (b : Bool). cond {A = ℕ} b 1 0) t in let r = rest (sym (ap (λ b. cond b (Some y) (find test ys)) t) ∙ e) in omega arith

  pub none_found : (test : A → Bool) (xs : List A) → ((i : ℕ) (x : A) → slice_get xs i ≡ Some x → test x ≡ false) → find test xs ≡ None
  none_found test [] h = refl
  none_found test (y ∷ ys) h = ap (λ b. cond b (Some y) (find test ys)) (h 0 y refl) ∙ none_found test ys (λ i. h (suc i))
