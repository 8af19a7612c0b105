-- Sums over a list that stand still at the greatest count.
use Rattle.std.proofs.Common.{◌≡◌, ℕ, zero, suc, ◌+◌, ◌<◌, min, List, [], ◌∷◌, length, take, get_or, slice_get, Some, None, sym, ap, ◌∙◌, arith}
use Rattle.std.proofs.lemmas.Option.{slice_get-get_or}
use Rattle.hall_core.specs.Kept.{total}

module _ {X : Type 0} (f : X → ℕ) where
  total_take : (xs : List X) (i : ℕ) (x : X) → slice_get xs i ≡ Some x → total f (take (suc i) xs) ≡ total f (take i xs) + f x
  total_take [] i x e = absurd (let k : None ≡ Some x = e in cc)
  total_take (y ∷ ys) zero x e = let same : Some y ≡ Some x = e in let is : y ≡ x = cc in let k : f y ≡ f x = ap f is in omega arith
  total_take (y ∷ ys) (suc i) x e = let h = total_take ys i x e in omega arith

  pub one_more : (xs : List X) (i : ℕ) (x : X) (most sum now count : ℕ) → i < length xs → x ≡ get_or xs i x → sum ≡ min (total f (take i xs)) most → count ≡ f x → now ≡ min (sum + count) most
      → now ≡ min (total f (take (i + 1) xs)) most
  one_more xs i x most sum now count within is so_far counted e =
      let next : i + 1 ≡ suc i = omega arith in
      let at : slice_get xs i ≡ Some x = slice_get-get_or xs i x within ∙ ap Some (sym is) in
      let more : total f (take (i + 1) xs) ≡ total f (take i xs) + f x = ap (λ n. total f (take n xs)) next ∙ total_take xs i x at in
      let t = total f (take i xs) in
      let merge : min (min t most + f x) most ≡ min (t + f x) most = omega arith in
      e ∙ (ap (λ z. min (z + count) most) so_far ∙ (ap (λ z. min (min t most + z) most) counted ∙ (merge ∙ ap (λ z. min z most) (sym more))))
