-- The rows at given places, and what a change of one place does to them.
use Rattle.std.proofs.Common.{◌≡◌, ◌≢◌, ℕ, zero, suc, ◌<◌, ◌≤◌, List, [], ◌∷◌, ◌++◌, set, remove, slice_get, length, Option, Some, None, refl, sym, ap, ◌∙◌, arith}
use Rattle.row_table.specs.Table.{row_at, before, rows_at}
use Rattle.row_table.specs.Keeping.{EachOnce}
use Rattle.row_table.proofs.Places.{row_other, row_same}

module _ {A : Type 0} where
  -- each of these places holds a row
  abbrev pub Taken : List (Option A) → List ℕ → Type 0
  Taken rows ps = (i p : ℕ) → slice_get ps i ≡ Some p → (x : A) × (row_at rows p ≡ Some x)

  before_more : (o : Option A) (xs ys : List A) → before o (xs ++ ys) ≡ before o xs ++ ys
  before_more None xs ys = refl
  before_more (Some x) xs ys = refl

  pub rows_snoc : (rows : List (Option A)) (ps : List ℕ) (p : ℕ) (x : A) → row_at rows p ≡ Some x → rows_at rows (ps ++ p ∷ []) ≡ rows_at rows ps ++ x ∷ []
  rows_snoc rows [] p x e = ap (λ o. before o []) e
  rows_snoc rows (q ∷ ps) p x e = ap (before (row_at rows q)) (rows_snoc rows ps p x e) ∙ before_more (row_at rows q) (rows_at rows ps) (x ∷ [])

  pub rows_unseen : (rows : List (Option A)) (ps : List ℕ) (p : ℕ) (o : Option A) → ((i q : ℕ) → slice_get ps i ≡ Some q → q ≢ p) → rows_at (set rows p o) ps ≡ rows_at rows ps
  rows_unseen rows [] p o n = refl
  rows_unseen rows (q ∷ ps) p o n = λ k. before (row_other rows p q o (n 0 q refl) k) (rows_unseen rows ps p o (λ i. n (suc i)) k)

  pub rows_remove : (rows : List (Option A)) (ps : List ℕ) (i : ℕ) → Taken rows ps → rows_at rows (remove ps i) ≡ remove (rows_at rows ps) i
  rows_remove rows [] zero taken = refl
  rows_remove rows [] (suc i) taken = refl
  rows_remove rows (p ∷ ps) zero taken = let x = taken 0 p refl in sym (ap (λ o. remove (before o (rows_at rows ps)) 0) x.1)
  rows_remove rows (p ∷ ps) (suc i) taken = let x = taken 0 p refl in
      ap (λ o. before o (rows_at rows (remove ps i))) x.1 ∙ (ap (λ l. x.0 ∷ l) (rows_remove rows ps i (λ j. taken (suc j))) ∙ sym (ap (λ o. remove (before o (rows_at rows ps)) (suc i)) x.1))

  pub rows_place : (rows : List (Option A)) (ps : List ℕ) (i p : ℕ) (x : A) → Taken rows ps → slice_get ps i ≡ Some p → row_at rows p ≡ Some x → slice_get (rows_at rows ps) i ≡ Some x
  rows_place rows [] i p x taken at e = absurd (let k : None ≡ Some p = at in cc)
  rows_place rows (q ∷ ps) zero p x taken at e =
      let is : q ≡ p = (let k : Some q ≡ Some p = at in cc) in ap (λ o. slice_get (before o (rows_at rows ps)) 0) (ap (row_at rows) is ∙ e)
  rows_place rows (q ∷ ps) (suc i) p x taken at e =
      let y = taken 0 q refl in ap (λ o. slice_get (before o (rows_at rows ps)) (suc i)) y.1 ∙ rows_place rows ps i p x (λ j. taken (suc j)) at e

  pub rows_change : (rows : List (Option A)) (ps : List ℕ) (i p : ℕ) (y : A) → Taken rows ps → EachOnce ps → slice_get ps i ≡ Some p → p < length rows → rows_at (set rows p (Some y)) ps ≡ set (rows_at rows ps) i y
  rows_change rows [] i p y taken once at lt = absurd (let k : None ≡ Some p = at in cc)
  rows_change rows (q ∷ ps) zero p y taken once at lt =
      let is : q ≡ p = (let k : Some q ≡ Some p = at in cc) in let x = taken 0 q refl in
      ap (λ o. before o (rows_at (set rows p (Some y)) ps)) (ap (row_at (set rows p (Some y))) is ∙ row_same rows p (Some y) lt)
      ∙ (ap (λ l. y ∷ l) (rows_unseen rows ps p (Some y) (λ i r h e. (let z = once (suc i) 0 p (h ∙ ap Some e) at in omega arith)))
      ∙ sym (ap (λ o. set (before o (rows_at rows ps)) 0 y) x.1))
  rows_change rows (q ∷ ps) (suc i) p y taken once at lt =
      let x = taken 0 q refl in
      let apart : q ≢ p = λ e. (let z = once 0 (suc i) p (ap Some e) at in omega arith) in
      ap (λ o. before o (rows_at (set rows p (Some y)) ps)) (row_other rows p q (Some y) apart ∙ x.1)
      ∙ (ap (λ l. x.0 ∷ l) (rows_change rows ps i p y (λ j. taken (suc j)) (λ j k r a b. (let z = once (suc j) (suc k) r a b in omega arith)) at lt)
      ∙ sym (ap (λ o. set (before o (rows_at rows ps)) (suc i) y) x.1))

  -- each row that is listed stands at a place
  pub listed_length : (rows : List (Option A)) (ps : List ℕ) → Taken rows ps → length (rows_at rows ps) ≡ length ps
  listed_length rows [] taken = refl
  listed_length rows (p ∷ ps) taken = let x = taken 0 p refl in
      ap (λ o. length (before o (rows_at rows ps))) x.1 ∙ ap suc (listed_length rows ps (λ j. taken (suc j)))

  before_le : (o : Option A) (xs : List A) (n : ℕ) → length xs ≤ n → length (before o xs) ≤ suc n
  before_le None xs n le = omega arith
  before_le (Some x) xs n le = omega arith

  pub listed_le : (rows : List (Option A)) (ps : List ℕ) → length (rows_at rows ps) ≤ length ps
  listed_le rows [] = omega arith
  listed_le rows (p ∷ ps) = before_le (row_at rows p) (rows_at rows ps) (length ps) (listed_le rows ps)

  before_placed : (rows : List (Option A)) (p : ℕ) (o : Option A) (xs : List A) (i : ℕ) (x : A) → row_at rows p ≡ o → slice_get (before o xs) i ≡ Some x
      → ((j : ℕ) → slice_get xs j ≡ Some x → (q : ℕ) × (row_at rows q ≡ Some x)) → (q : ℕ) × (row_at rows q ≡ Some x)
  before_placed rows p None xs i x is e rest = rest i e
  before_placed rows p (Some y) xs zero x is e rest = (p, is ∙ e)
  before_placed rows p (Some y) xs (suc i) x is e rest = rest i e

  pub placed : (rows : List (Option A)) (ps : List ℕ) (i : ℕ) (x : A) → slice_get (rows_at rows ps) i ≡ Some x → (q : ℕ) × (row_at rows q ≡ Some x)
  placed rows [] i x e = absurd (let k : None ≡ Some x = e in cc)
  placed rows (p ∷ ps) i x e = before_placed rows p (row_at rows p) (rows_at rows ps) i x refl e (λ j. placed rows ps j x)
