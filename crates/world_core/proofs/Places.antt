-- The first item that passes a test, by its place.
use Rattle.std.proofs.Common.{◌≡◌, ℕ, zero, suc, ◌<◌, Bool, true, false, cond, List, [], ◌∷◌, length, get_or, set, remove, position, find, Option, Some, None, refl, sym, ap, ◌∙◌, inl, inr, arith}
use Rattle.std.specs.List.{position_or_len}
use Rattle.std.proofs.lemmas.Bool.{cases_lt, lt-ltb}
use Rattle.std.proofs.lemmas.List.Folds.{find_at}
use Rattle.std.proofs.lemmas.List.Quantifiers.{position-Some}
use Rattle.std.proofs.lemmas.Option.{slice_get_past}
use Rattle.hall_core.specs.Rows.{without, changed}

-- x is the first of xs that passes, and stands at i
pub record IsAt {A : Type 0} (test : A → Bool) (xs : List A) (i : ℕ) (x : A) : Type 0 where
  pub found : find test xs ≡ Some x
  pub passes : test x ≡ true
  pub left : without test xs ≡ remove xs i
  pub change : (f : A → A) → changed test f xs ≡ set xs i (f x)

module _ {A : Type 0} where
  at : (test : A → Bool) (xs : List A) (i : ℕ) (x : A) → i < length xs → x ≡ get_or xs i x → test x ≡ true → ((k : ℕ) → k < i → test (get_or xs k x) ≡ false) → IsAt test xs i x
  at test [] i x lt e t before = absurd (omega arith)
  at test (y ∷ ys) zero x lt e t before = let ty : test y ≡ true = ap test (sym e) ∙ t in record {
    found = ap (λ b. cond b (Some y) (find test ys)) ty ∙ ap Some (sym e);
    passes = t;
    left = ap (λ b. cond b ys (y ∷ without test ys)) ty;
    change = λ f. ap (λ b. cond b (f y ∷ ys) (y ∷ changed test f ys)) ty ∙ ap (λ z. f z ∷ ys) (sym e);
  }
  at test (y ∷ ys) (suc i) x lt e t before =
      let ty : test y ≡ false = before 0 (omega arith) in
      let r = at test ys i x (omega arith) e t (λ k less. before (suc k) (omega arith)) in record {
        found = ap (λ b. cond b (Some y) (find test ys)) ty ∙ r.found;
        passes = t;
        left = ap (λ b. cond b ys (y ∷ without test ys)) ty ∙ ap (λ l. y ∷ l) r.left;
        change = λ f. ap (λ b. cond b (f y ∷ ys) (y ∷ changed test f ys)) ty ∙ ap (λ l. y ∷ l) (r.change f);
      }

  -- of what a search for the place told
  pub is_at : (test : A → Bool) (xs l : List A) (p : Option ℕ) (i : ℕ) (x : A) → p ≡ position test l → l ≡ xs → p ≡ Some i → x ≡ get_or xs i x → IsAt test xs i x
  is_at test xs l p i x e same some x_is =
      let h = position-Some test xs i x (ap (position test) (sym same) ∙ (sym e ∙ some)) in
      at test xs i x h.0 x_is (ap test x_is ∙ h.1) h.2

  pub is_within : (test : A → Bool) (xs l : List A) (p : Option ℕ) (i : ℕ) (d : A) → p ≡ position test l → l ≡ xs → p ≡ Some i → i < length xs
  is_within test xs l p i d e same some = (position-Some test xs i d (ap (position test) (sym same) ∙ (sym e ∙ some))).0

  none_passes : (test : A → Bool) (xs : List A) → position test xs ≡ None → find test xs ≡ None
  none_passes test xs e = let n = position_or_len test xs in elim (cases_lt n (length xs)) [
    | inl less ↦ let f : Some n ≡ None = sym (ap (λ b. cond b (Some n) None) (lt-ltb n (length xs) less)) ∙ e in cc
    | inr more ↦ find_at test xs ∙ slice_get_past xs n more
  ]

  pub all_stay : (test : A → Bool) (xs : List A) → find test xs ≡ None → without test xs ≡ xs
  all_stay test [] e = refl
  all_stay test (x ∷ xs) e = go (test x) refl (all_stay test xs)
    where
      go : (b : Bool) → test x ≡ b → (find test xs ≡ None → without test xs ≡ xs) → without test (x ∷ xs) ≡ x ∷ xs
      go true t rest = let f : Some x ≡ None = sym (ap (λ b. cond b (Some x) (find test xs)) t) ∙ e in cc
      go false t rest = ap (λ b. cond b xs (x ∷ without test xs)) t ∙ ap (λ l. x ∷ l) (rest (sym (ap (λ b. cond b (Some x) (find test xs)) t) ∙ e))

  pub is_none : (test : A → Bool) (xs l : List A) (p : Option ℕ) → p ≡ position test l → l ≡ xs → p ≡ None → find test xs ≡ None
  is_none test xs l p e same none = none_passes test xs (ap (position test) (sym same) ∙ (sym e ∙ none))
