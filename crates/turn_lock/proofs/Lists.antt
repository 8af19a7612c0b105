-- Lists read at a place, and sums over lists.
use Rattle.std.proofs.Common.{◌≡◌, ◌≢◌, ℕ, zero, suc, ◌+◌, ◌≤◌, List, [], ◌∷◌, ◌++◌, map, set, refl, sym, ap, ◌∙◌, arith}
use mathlib.Core.Option.{some, some-injective, some-ne-none}
use lib.ListN.{get_elem?}
use Rattle.turn_lock.specs.History.{total}

module _ {A : Type 0} where
  pub total_set : (f : A → ℕ) (xs : List A) (i : ℕ) (a b : A) → get_elem? xs i ≡ some a → total f (set xs i b) + f a ≡ total f xs + f b
  total_set f [] i a b e = absurd (some-ne-none a (sym e))
  total_set f (x ∷ xs) zero a b e = let h : f x ≡ f a = ap f (some-injective x a e) in omega arith
  total_set f (x ∷ xs) (suc i) a b e = let h = total_set f xs i a b e in omega arith

  pub total_none : (f : A → ℕ) (xs : List A) → ((j : ℕ) (a : A) → get_elem? xs j ≡ some a → f a ≡ 0) → total f xs ≡ 0
  total_none f [] h = refl
  total_none f (x ∷ xs) h = let a = h 0 x refl in let b = total_none f xs (λ j. h (suc j)) in omega arith

  pub total_le : (f g : A → ℕ) (xs : List A) → ((j : ℕ) (a : A) → get_elem? xs j ≡ some a → f a ≤ g a) → total f xs ≤ total g xs
  total_le f g [] h = omega arith
  total_le f g (x ∷ xs) h = let a = h 0 x refl in let b = total_le f g xs (λ j. h (suc j)) in omega arith

  pub total_at : (f : A → ℕ) (xs : List A) (i : ℕ) (a : A) → get_elem? xs i ≡ some a → f a ≤ total f xs
  total_at f [] i a e = absurd (some-ne-none a (sym e))
  total_at f (x ∷ xs) zero a e = let h : f x ≡ f a = ap f (some-injective x a e) in omega arith
  total_at f (x ∷ xs) (suc i) a e = let h = total_at f xs i a e in omega arith

  pub total_snoc : (f : A → ℕ) (xs : List A) (a : A) → total f (xs ++ a ∷ []) ≡ total f xs + f a
  total_snoc f [] a = omega arith
  total_snoc f (x ∷ xs) a = let h = total_snoc f xs a in omega arith

  -- where g is all at one place, and f is nothing where g is nothing, f is all there too
  pub alone : (f g : A → ℕ) (xs : List A) (i : ℕ) (a : A) → get_elem? xs i ≡ some a → total g xs ≡ g a → ((j : ℕ) (b : A) → get_elem? xs j ≡ some b → g b ≡ 0 → f b ≡ 0) → total f xs ≡ f a
  alone f g [] i a e s h = absurd (some-ne-none a (sym e))
  alone f g (x ∷ xs) zero a e s h =
      let p : f x ≡ f a = ap f (some-injective x a e) in let q : g x ≡ g a = ap g (some-injective x a e) in let z : total g xs ≡ 0 = omega arith in
      let none_left : total f xs ≡ 0 = total_none f xs (λ j b at. h (suc j) b at (let le = total_at g xs j b at in omega arith)) in omega arith
  alone f g (x ∷ xs) (suc i) a e s h =
      let le = total_at g xs i a e in let z : g x ≡ 0 = omega arith in let w : f x ≡ 0 = h 0 x refl z in
      let rest = alone f g xs i a e (omega arith) (λ j. h (suc j)) in omega arith

  -- two places together have no more than the whole
  pub total_two : (f : A → ℕ) (xs : List A) (i j : ℕ) (a b : A) → i ≢ j → get_elem? xs i ≡ some a → get_elem? xs j ≡ some b → f a + f b ≤ total f xs
  total_two f [] i j a b ne p q = absurd (some-ne-none a (sym p))
  total_two f (x ∷ xs) zero zero a b ne p q = absurd (ne refl)
  total_two f (x ∷ xs) zero (suc j) a b ne p q = let h : f x ≡ f a = ap f (some-injective x a p) in let r = total_at f xs j b q in omega arith
  total_two f (x ∷ xs) (suc i) zero a b ne p q = let h : f x ≡ f b = ap f (some-injective x b q) in let r = total_at f xs i a p in omega arith
  total_two f (x ∷ xs) (suc i) (suc j) a b ne p q = let r = total_two f xs i j a b (λ e. ne (ap suc e)) p q in omega arith

  pub map_same : {B : Type 0} (f g : A → B) (xs : List A) → ((j : ℕ) (a : A) → get_elem? xs j ≡ some a → f a ≡ g a) → map f xs ≡ map g xs
  map_same f g [] h = refl
  map_same f g (x ∷ xs) h = λ k. h 0 x refl k ∷ map_same f g xs (λ j. h (suc j)) k

  -- a change that f does not see
  pub map_unseen : {B : Type 0} (f : A → B) (xs : List A) (i : ℕ) (a b : A) → get_elem? xs i ≡ some a → f b ≡ f a → map f (set xs i b) ≡ map f xs
  map_unseen f [] i a b e s = refl
  map_unseen f (x ∷ xs) zero a b e s = λ k. (s ∙ ap f (sym (some-injective x a e))) k ∷ map f xs
  map_unseen f (x ∷ xs) (suc i) a b e s = λ k. f x ∷ map_unseen f xs i a b e s k

  pub map_changed : {B : Type 0} (f : A → B) (xs : List A) (i : ℕ) (b : A) → map f (set xs i b) ≡ set (map f xs) i (f b)
  map_changed f [] i b = refl
  map_changed f (x ∷ xs) zero b = refl
  map_changed f (x ∷ xs) (suc i) b = λ k. f x ∷ map_changed f xs i b k

  pub set_at : (xs : List A) (i : ℕ) (a b : A) → get_elem? xs i ≡ some a → get_elem? (set xs i b) i ≡ some b
  set_at [] i a b e = absurd (some-ne-none a (sym e))
  set_at (x ∷ xs) zero a b e = refl
  set_at (x ∷ xs) (suc i) a b e = set_at xs i a b e

  pub same_place : (xs : List A) (i j : ℕ) (a b : A) → i ≡ j → get_elem? xs i ≡ some a → get_elem? xs j ≡ some b → a ≡ b
  same_place xs i j a b e p q = some-injective a b (sym p ∙ (ap (get_elem? xs) e ∙ q))
