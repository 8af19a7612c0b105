-- One more item: of a list of shards, and of the places that were found.
use Rattle.std.proofs.Common.{◌≡◌, ℕ, zero, suc, ◌+◌, ◌<◌, Bool, List, [], ◌∷◌, ◌++◌, length, position, Some, None, refl, sym, ap, subst, arith}
use Rattle.std.specs.List.{slice_get}
use Rattle.std.proofs.lemmas.List.Quantifiers.{position-Some}
use Rattle.hall_core.specs.State as table
use Rattle.hall_core.specs.Step as turn
use Rattle.tx_core.specs.HalfView.{HalfView}
use Rattle.world_core.specs.World.{Halls}
use Rattle.world_core.specs.Standing.{AreNew}

module _ {A : Type 0} where
  pub is_within : (test : A → Bool) (xs : List A) (i : ℕ) → position test xs ≡ Some i → i < length xs
  is_within test [] i e = absurd (let k : None ≡ Some i = e in cc)
  is_within test (x ∷ xs) i e = (position-Some test (x ∷ xs) i x e).0

  longer : (xs : List A) (y : A) → length (xs ++ y ∷ []) ≡ suc (length xs)
  longer [] y = refl
  longer (x ∷ xs) y = ap suc (longer xs y)

  some_same : (a b : A) → Some a ≡ Some b → a ≡ b
  some_same a b e = cc

more : {A : Type 0} (P : ℕ → A → Type 0) (xs : List A) (y : A) → ((i : ℕ) (z : A) → slice_get xs i ≡ Some z → P i z) → P (length xs) y → (i : ℕ) (z : A) → slice_get (xs ++ y ∷ []) i ≡ Some z → P i z
more P [] y each last zero z e = subst (λ k. P 0 k) (some_same y z e) last
more P [] y each last (suc i) z e = absurd (let k : None ≡ Some z = e in cc)
more P (x ∷ xs) y each last zero z e = each zero z e
more P (x ∷ xs) y each last (suc i) z e = more (λ i z. P (suc i) z) xs y (λ i z is. each (suc i) z is) last i z e

pub another : (n capacity : ℕ) (halls : Halls) (hall : table.State HalfView) (others : Halls) → AreNew n capacity halls → turn.IsNew n capacity hall → others ≡ halls ++ hall ∷ [] → AreNew (n + 1) capacity others
another n capacity halls hall others new is e =
    let a : length (halls ++ hall ∷ []) ≡ suc (length halls) = longer halls hall in
    let b : length halls ≡ n = new.count_is in
    subst (λ l. AreNew (n + 1) capacity l) (sym e) (record {
      count_is = omega arith;
      each = more (λ i h. turn.IsNew i capacity h) halls hall new.each (subst (λ k. turn.IsNew k capacity hall) (sym new.count_is) is);
    })
