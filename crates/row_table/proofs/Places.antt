-- Lists read at a place, and lists without one item.
use Rattle.std.proofs.Common.{◌≡◌, ◌≢◌, ℕ, zero, suc, ◌⊎◌, ◌<◌, List, [], ◌∷◌, ◌++◌, set, remove, slice_get, slice_index_or, length, Option, Some, None, refl, sym, ap, inl, inr, ⊎_elim, arith, get_or, get_or-set_other, get_or-set_same}
use Rattle.row_table.specs.Table.{row_at}

-- where an item stood that stands at j without that at i
pub shift : ℕ → ℕ → ℕ
shift zero j = suc j
shift (suc i) zero = zero
shift (suc i) (suc j) = suc (shift i j)

pub shift_apart : (i j : ℕ) → shift i j ≢ i
unfolding shift
shift_apart zero j e = omega arith
shift_apart (suc i) zero e = omega arith
shift_apart (suc i) (suc j) e = shift_apart i j (let k : suc (shift i j) ≡ suc i = e in omega arith)

pub shift_once : (i j k : ℕ) → shift i j ≡ shift i k → j ≡ k
unfolding shift
shift_once zero j k e = (let h : suc j ≡ suc k = e in omega arith)
shift_once (suc i) zero zero e = refl
shift_once (suc i) zero (suc k) e = absurd (let h : zero ≡ suc (shift i k) = e in omega arith)
shift_once (suc i) (suc j) zero e = absurd (let h : suc (shift i j) ≡ zero = e in omega arith)
shift_once (suc i) (suc j) (suc k) e = ap suc (shift_once i j k (let h : suc (shift i j) ≡ suc (shift i k) = e in omega arith))

pub shifted : (i k : ℕ) → k ≢ i → (j : ℕ) × (shift i j ≡ k)
unfolding shift
shifted zero zero n = absurd (n refl)
shifted zero (suc k) n = (k, refl)
shifted (suc i) zero n = (zero, refl)
shifted (suc i) (suc k) n = let r = shifted i k (λ e. n (ap suc e)) in (suc r.0, ap suc r.1)

pub shift_less : (i j k : ℕ) → j < k → shift i j < shift i k
unfolding shift
shift_less zero j k lt = omega arith
shift_less (suc i) j zero lt = absurd (omega arith)
shift_less (suc i) zero (suc k) lt = omega arith
shift_less (suc i) (suc j) (suc k) lt = let r = shift_less i j k (omega arith) in omega arith

module _ {A : Type 0} where
  pub at_snoc : (xs : List A) (a x : A) (j : ℕ) → slice_get (xs ++ a ∷ []) j ≡ Some x → (slice_get xs j ≡ Some x) ⊎ ((j ≡ length xs) × (a ≡ x))
  at_snoc [] a x zero e = inr (refl, (let k : Some a ≡ Some x = e in cc))
  at_snoc [] a x (suc j) e = absurd (let k : None ≡ Some x = e in cc)
  at_snoc (y ∷ ys) a x zero e = inl e
  at_snoc (y ∷ ys) a x (suc j) e = ⊎_elim (λ h. inl h) (λ h. inr (ap suc h.0, h.1)) (at_snoc ys a x j e)

  pub at_front : (xs ys : List A) (j : ℕ) (x : A) → slice_get xs j ≡ Some x → slice_get (xs ++ ys) j ≡ Some x
  at_front [] ys j x e = absurd (let k : None ≡ Some x = e in cc)
  at_front (y ∷ xs) ys zero x e = e
  at_front (y ∷ xs) ys (suc j) x e = at_front xs ys j x e

  pub at_last : (xs : List A) (a : A) → slice_get (xs ++ a ∷ []) (length xs) ≡ Some a
  at_last [] a = refl
  at_last (y ∷ ys) a = at_last ys a

  pub at_removed : (xs : List A) (i j : ℕ) → slice_get (remove xs i) j ≡ slice_get xs (shift i j)
  unfolding shift
  at_removed [] zero j = refl
  at_removed [] (suc i) zero = refl
  at_removed [] (suc i) (suc j) = refl
  at_removed (x ∷ xs) zero j = refl
  at_removed (x ∷ xs) (suc i) zero = refl
  at_removed (x ∷ xs) (suc i) (suc j) = at_removed xs i j

  pub row_same : (rows : List (Option A)) (p : ℕ) (o : Option A) → p < length rows → row_at (set rows p o) p ≡ o
  row_same rows p o lt = get_or-set_same rows p o None lt

  pub row_other : (rows : List (Option A)) (p q : ℕ) (o : Option A) → q ≢ p → row_at (set rows p o) q ≡ row_at rows q
  row_other rows p q o n = get_or-set_other rows p q o None n

  pub row_within : (rows : List (Option A)) (p : ℕ) (x : A) → row_at rows p ≡ Some x → p < length rows
  row_within [] p x e = absurd (let k : None ≡ Some x = e in cc)
  row_within (o ∷ rows) zero x e = omega arith
  row_within (o ∷ rows) (suc p) x e = let r = row_within rows p x e in omega arith

  -- what was read at a place, whatever was said to stand past the end
  pub row_read : (rows : List (Option A)) (p : ℕ) (o : Option A) → p < length rows → o ≡ get_or rows p o → row_at rows p ≡ o
  row_read [] p o lt e = absurd (omega arith)
  row_read (x ∷ rows) zero o lt e = sym e
  row_read (x ∷ rows) (suc p) o lt e = row_read rows p o (omega arith) e

pub item_read : {A : Type 0} (xs : List A) (i : ℕ) (x : A) → i < length xs → x ≡ get_or xs i x → slice_get xs i ≡ Some x
item_read [] i x lt e = absurd (omega arith)
item_read (y ∷ ys) zero x lt e = ap Some (sym e)
item_read (y ∷ ys) (suc i) x lt e = item_read ys i x (omega arith) e

pub item_within : {A : Type 0} (xs : List A) (i : ℕ) → i < length xs → (x : A) × (slice_get xs i ≡ Some x)
item_within [] i lt = absurd (omega arith)
item_within (y ∷ ys) zero lt = (y, refl)
item_within (y ∷ ys) (suc i) lt = item_within ys i (omega arith)

pub item_is : (xs : List ℕ) (i p : ℕ) → slice_get xs i ≡ Some p → slice_index_or xs i 0 ≡ p
item_is [] i p e = absurd (let k : None ≡ Some p = e in cc)
item_is (y ∷ ys) zero p e = (let k : Some y ≡ Some p = e in cc)
item_is (y ∷ ys) (suc i) p e = item_is ys i p e
