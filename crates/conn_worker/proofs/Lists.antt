-- What stands at a place of a list that was mapped, or in which one item was replaced.
use Rattle.std.proofs.Common.{◌≡◌, ℕ, zero, suc, List, [], ◌∷◌, map, set, slice_get, Some, None, refl, sym, ap, ◌∙◌}

module _ {A B : Type 0} (f : A → B) where
  pub map_at : (xs : List A) (i : ℕ) (x : A) → slice_get xs i ≡ Some x → slice_get (map f xs) i ≡ Some (f x)
  map_at [] i x e = absurd (let k : None ≡ Some x = e in cc)
  map_at (y ∷ ys) zero x e = ap (λ (z : A). Some (f z)) (let k : Some y ≡ Some x = e in cc)
  map_at (y ∷ ys) (suc i) x e = map_at ys i x e

  pub at_map : (xs : List A) (i : ℕ) (b : B) → slice_get (map f xs) i ≡ Some b → (x : A) × (slice_get xs i ≡ Some x) × (f x ≡ b)
  at_map [] i b e = absurd (let k : None ≡ Some b = e in cc)
  at_map (y ∷ ys) zero b e = (y, refl, (let k : Some (f y) ≡ Some b = e in cc))
  at_map (y ∷ ys) (suc i) b e = at_map ys i b e

  pub map_set : (xs : List A) (i : ℕ) (x : A) → map f (set xs i x) ≡ set (map f xs) i (f x)
  map_set [] i x = refl
  map_set (y ∷ ys) zero x = refl
  map_set (y ∷ ys) (suc i) x = ap (λ (l : List B). f y ∷ l) (map_set ys i x)

  -- one is replaced that looks the same
  pub unseen : (xs : List A) (i : ℕ) (a b : A) → slice_get xs i ≡ Some a → f b ≡ f a → map f (set xs i b) ≡ map f xs
  unseen [] i a b e s = refl
  unseen (y ∷ ys) zero a b e s = ap (λ (z : B). z ∷ map f ys) (s ∙ ap f (let k : Some y ≡ Some a = e in let r : a ≡ y = cc in r))
  unseen (y ∷ ys) (suc i) a b e s = ap (λ (l : List B). f y ∷ l) (unseen ys i a b e s)

pub got : {A : Type 0} (xs : List A) (i : ℕ) (a x : A) → slice_get xs i ≡ Some a → slice_get (set xs i x) i ≡ Some x
got [] i a x e = absurd (let k : None ≡ Some a = e in cc)
got (y ∷ ys) zero a x e = refl
got (y ∷ ys) (suc i) a x e = got ys i a x e

pub set_again : {A : Type 0} (xs : List A) (i : ℕ) (x y : A) → set (set xs i x) i y ≡ set xs i y
set_again [] i x y = refl
set_again (z ∷ zs) zero x y = refl
set_again (z ∷ zs) (suc i) x y = ap (λ (l : List _). z ∷ l) (set_again zs i x y)
