-- The first item that passes a test, by its place.
use Rattle.std.proofs.Common.{◌≡◌, ℕ, zero, suc, ◌+◌, ◌<◌, Bool, true, false, cond, List, [], ◌∷◌, length, slice_get, find, count_by, not, Some, None, refl, sym, ap, ◌∙◌, arith}
use Rattle.std.proofs.lemmas.List.Recursion.{is_count_by}
use Rattle.hall_core.specs.Rows.{without, changed}
use Rattle.hall_core.specs.Found.{IsAt}

module _ {A : Type 0} where
  pub first_at : (test : A → Bool) (xs : List A) (i : ℕ) (x : A) → slice_get xs i ≡ Some x → test x ≡ true → ((k : ℕ) (y : A) → k < i → slice_get xs k ≡ Some y → test y ≡ false) → IsAt test xs i x
  first_at test [] i x e t before = absurd (let k : None ≡ Some x = e in cc)
  first_at test (y ∷ ys) zero x e t before =
      let is : y ≡ x = (let k : Some y ≡ Some x = e in cc) in let ty : test y ≡ true = ap test is ∙ t in record {
        here = e;
        found = ap (λ b. cond b (Some y) (find test ys)) ty ∙ ap Some is;
        passes = t;
        left = ap (λ b. cond b ys (y ∷ without test ys)) ty;
        change = λ f. ap (λ b. cond b (f y ∷ ys) (y ∷ changed test f ys)) ty ∙ ap (λ z. f z ∷ ys) is;
      }
  first_at test (y ∷ ys) (suc i) x e t before =
      let ty : test y ≡ false = before 0 y (omega arith) refl in
      let r = first_at test ys i x e t (λ k z less at. before (suc k) z (omega arith) at) in record {
        here = e;
        found = ap (λ b. cond b (Some y) (find test ys)) ty ∙ r.found;
        passes = t;
        left = ap (λ b. cond b ys (y ∷ without test ys)) ty ∙ ap (λ l. y ∷ l) r.left;
        change = λ f. ap (λ b. cond b (f y ∷ ys) (y ∷ changed test f ys)) ty ∙ ap (λ l. y ∷ l) (r.change f);
      }

  pub none_passes : (test : A → Bool) (xs : List A) → ((k : ℕ) (y : A) → slice_get xs k ≡ Some y → test y ≡ false) → find test xs ≡ None
  none_passes test [] h = refl
  none_passes test (y ∷ ys) h = ap (λ b. cond b (Some y) (find test ys)) (h 0 y refl) ∙ none_passes test ys (λ k. h (suc k))

  pub found_place : (test : A → Bool) (xs : List A) (x : A) → find test xs ≡ Some x → (i : ℕ) × (slice_get xs i ≡ Some x)
  found_place test [] x e = absurd (let k : None ≡ Some x = e in cc)
  found_place test (y ∷ ys) x e = go (test y) refl (found_place test ys x)
    where
      go : (b : Bool) → test y ≡ b → (find test ys ≡ Some x → (i : ℕ) × (slice_get ys i ≡ Some x)) → (i : ℕ) × (slice_get (y ∷ ys) i ≡ Some x)
      go true t rest = (0, sym (ap (λ b. cond b (Some y) (find test ys)) t) ∙ e)
      go false t rest = let r = rest (sym (ap (λ b. cond b (Some y) (find test ys)) t) ∙ e) in (suc r.0, r.1)

  pub all_stay : (test : A → Bool) (xs : List A) → find test xs ≡ None → without test xs ≡ xs
  all_stay test [] e = refl
  all_stay test (x ∷ xs) e = go (test x) refl (all_stay test xs)
    where
      go : (b : Bool) → test x ≡ b → (find test xs ≡ None → without test xs ≡ xs) → without test (x ∷ xs) ≡ x ∷ xs
      go true t rest = let f : Some x ≡ None = sym (ap (λ b. cond b (Some x) (find test xs)) t) ∙ e in cc
      go false t rest = ap (λ b. cond b xs (x ∷ without test xs)) t ∙ ap (λ l. x ∷ l) (rest (sym (ap (λ b. cond b (Some x) (find test xs)) t) ∙ e))

  -- how many pass, from item to item
  count : (A → Bool) → List A → ℕ
  count test [] = 0
  count test (x ∷ xs) = cond (test x) (1 + count test xs) (count test xs)

  count_is : (test : A → Bool) (xs : List A) → count test xs ≡ count_by test xs
  unfolding count
  count_is test xs = is_count_by (count test) test refl (λ x xs. refl) xs

  both : (test : A → Bool) (xs : List A) → count test xs + count (λ x. not (test x)) xs ≡ length xs
  unfolding count
  both test [] = refl
  both test (x ∷ xs) = go (test x) (both test xs)
    where
      go : (b : Bool) → count test xs + count (λ x. not (test x)) xs ≡ length xs
          → cond b (1 + count test xs) (count test xs) + cond (not b) (1 + count (λ x. not (test x)) xs) (count (λ x. not (test x)) xs) ≡ suc (length xs)
      go true r = omega arith
      go false r = omega arith

  pub count_both : (test : A → Bool) (xs : List A) → count_by test xs + count_by (λ x. not (test x)) xs ≡ length xs
  count_both test xs = let a = both test xs in let b = count_is test xs in let c = count_is (λ x. not (test x)) xs in omega arith
