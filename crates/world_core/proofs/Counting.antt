-- Sums that stand still at the greatest count.
use Rattle.std.proofs.Common.{◌≡◌, ℕ, zero, suc, ◌+◌, ◌<◌, min, [], ◌∷◌, length, take, get_or, slice_get, Some, None, sym, ap, ◌∙◌, arith}
use Rattle.hall_core.specs.Kept.{total}
use Rattle.world_core.specs.World.{Halls}
use Rattle.world_core.proofs.Tickets.{Hall}
use Rattle.world_core.proofs.Calling.{at_place}

total_take : (f : Hall → ℕ) (xs : Halls) (i : ℕ) (x : Hall) → slice_get xs i ≡ Some x → total f (take (suc i) xs) ≡ total f (take i xs) + f x
total_take f [] i x e = absurd (let k : None ≡ Some x = e in cc)
total_take f (y ∷ ys) zero x e = let same : Some y ≡ Some x = e in let is : y ≡ x = cc in let k : f y ≡ f x = ap f is in omega arith
total_take f (y ∷ ys) (suc i) x e = let h = total_take f ys i x e in omega arith

min_more : (a b most : ℕ) → min (min a most + b) most ≡ min (a + b) most
min_more a b most = omega arith

pub one_more : (f : Hall → ℕ) (xs : Halls) (i : ℕ) (x : Hall) (most sum now count : ℕ) → i < length xs → x ≡ get_or xs i x → sum ≡ min (total f (take i xs)) most → count ≡ f x → now ≡ min (sum + count) most
    → now ≡ min (total f (take (i + 1) xs)) most
one_more f xs i x most sum now count lt is so_far counted e =
    let next : i + 1 ≡ suc i = omega arith in
    let more : total f (take (i + 1) xs) ≡ total f (take i xs) + f x = ap (λ n. total f (take n xs)) next ∙ total_take f xs i x (at_place xs i x lt is) in
    e ∙ (ap (λ z. min (z + count) most) so_far ∙ (ap (λ z. min (min (total f (take i xs)) most + z) most) counted ∙ (min_more (total f (take i xs)) (f x) most ∙ ap (λ z. min z most) (sym more))))
