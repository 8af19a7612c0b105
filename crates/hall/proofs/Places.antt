-- What stands at a place of a list in which one item was replaced.
use Rattle.std.proofs.Common.{◌≡◌, ◌≢◌, ℕ, zero, suc, ◌⊎◌, ◌<◌, List, [], ◌∷◌, ◌++◌, set, slice_get, length, get_or, Some, None, refl, sym, ap, ◌∙◌, inl, inr, ⊎_elim, arith}

pub got : {A : Type 0} (xs : List A) (i : ℕ) (x : A) → i < length xs → x ≡ get_or xs i x → slice_get xs i ≡ Some x
got [] i x h e = absurd (omega arith)
got (y ∷ ys) zero x h e = ap Some (sym e)
got (y ∷ ys) (suc i) x h e = got ys i x (omega arith) e

pub one_item : {A : Type 0} (xs : List A) (i : ℕ) (x y : A) → slice_get xs i ≡ Some x → slice_get xs i ≡ Some y → x ≡ y
one_item xs i x y a b = let k : Some x ≡ Some y = sym a ∙ b in cc

pub at_set : {A : Type 0} (xs : List A) (i j : ℕ) (w x : A) → slice_get (set xs i w) j ≡ Some x → ((j ≡ i) × (w ≡ x)) ⊎ ((j ≢ i) × (slice_get xs j ≡ Some x))
at_set [] i j w x e = absurd (let k : None ≡ Some x = e in cc)
at_set (y ∷ ys) zero zero w x e = inl (refl, (let k : Some w ≡ Some x = e in cc))
at_set (y ∷ ys) zero (suc j) w x e = inr ((λ h. omega arith), e)
at_set (y ∷ ys) (suc i) zero w x e = inr ((λ h. omega arith), e)
at_set (y ∷ ys) (suc i) (suc j) w x e = ⊎_elim (λ t. inl (ap suc t.0, t.1)) (λ t. let n = t.0 in inr ((λ h. n (omega arith)), t.1)) (at_set ys i j w x e)

pub set_other : {A : Type 0} (xs : List A) (i j : ℕ) (w : A) → j ≢ i → slice_get (set xs i w) j ≡ slice_get xs j
set_other [] i j w n = refl
set_other (y ∷ ys) zero zero w n = absurd (n refl)
set_other (y ∷ ys) zero (suc j) w n = refl
set_other (y ∷ ys) (suc i) zero w n = refl
set_other (y ∷ ys) (suc i) (suc j) w n = set_other ys i j w (λ e. n (ap suc e))

pub at_snoc : {A : Type 0} (xs : List A) (a x : A) (j : ℕ) → slice_get (xs ++ a ∷ []) j ≡ Some x → (slice_get xs j ≡ Some x) ⊎ ((j ≡ length xs) × (a ≡ x))
at_snoc [] a x zero e = inr (refl, (let k : Some a ≡ Some x = e in cc))
at_snoc [] a x (suc j) e = absurd (let k : None ≡ Some x = e in cc)
at_snoc (y ∷ ys) a x zero e = inl e
at_snoc (y ∷ ys) a x (suc j) e = ⊎_elim (λ h. inl h) (λ h. inr (ap suc h.0, h.1)) (at_snoc ys a x j e)

pub at_front : {A : Type 0} (xs ys : List A) (j : ℕ) (x : A) → slice_get xs j ≡ Some x → slice_get (xs ++ ys) j ≡ Some x
at_front [] ys j x e = absurd (let k : None ≡ Some x = e in cc)
at_front (y ∷ xs) ys zero x e = e
at_front (y ∷ xs) ys (suc j) x e = at_front xs ys j x e

pub at_last : {A : Type 0} (xs : List A) (a : A) → slice_get (xs ++ a ∷ []) (length xs) ≡ Some a
at_last [] a = refl
at_last (y ∷ ys) a = at_last ys a

pub item_at : {A : Type 0} (xs : List A) (i : ℕ) → i < length xs → (x : A) × (slice_get xs i ≡ Some x)
item_at [] i lt = absurd (omega arith)
item_at (x ∷ xs) zero lt = (x, refl)
item_at (x ∷ xs) (suc i) lt = item_at xs i (omega arith)
