-- The front of a text that passes a test.
use Rattle.std.proofs.Common.{◌≡◌, ℕ, zero, suc, Bool, List, [], ◌∷◌, length, take, refl, ap}
use Rattle.std.specs.List.{take_while, prefix_len}

twice : (n : ℕ) (xs : List ℕ) → take (length (take n xs)) xs ≡ take n xs
twice zero xs = refl
twice (suc n) [] = refl
twice (suc n) (x ∷ xs) = ap (λ (l : List ℕ). x ∷ l) (twice n xs)

pub taken_while : (p : ℕ → Bool) (xs : List ℕ) → take (length (take_while p xs)) xs ≡ take_while p xs
taken_while p xs = twice (prefix_len p xs) xs
