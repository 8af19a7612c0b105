-- How many places hold something.
use Rattle.std.proofs.Common.{◌≡◌, ℕ, zero, suc, ◌+◌, ◌<◌, cond, List, length, get_or, set, count_by}
use Rattle.std.proofs.Common.{is_some, replicate}
use Rattle.std.proofs.Common.{Option, Some, None, refl, ap, arith}
use Rattle.std.proofs.Math.ListN.{length-set}
use Rattle.std.proofs.lemmas.List.Sums.{sum_by-set, count_by-le-length}

pub count_free : (A : Type 0) (n : ℕ) → count_by (is_some {T = A}) (replicate n None) ≡ 0
count_free A zero = refl
count_free A (suc n) = count_free A n

module _ {A : Type 0} (xs : List (Option A)) (i : ℕ) (lt : i < length xs) where
  one : Option A → ℕ
  one o = cond (is_some o) 1 0

  count_more : (x : A) → get_or xs i None ≡ None → count_by is_some (set xs i (Some x)) ≡ count_by is_some xs + 1
  unfolding one
  count_more x free =
      let all = sum_by-set one xs i (Some x) None lt in let none : one (get_or xs i None) ≡ 0 = ap one free in
      omega arith

  pub count_below : (x : A) → get_or xs i None ≡ None → count_by is_some xs < length xs
  count_below x free =
      let more = count_more x free in
      let most = count_by-le-length is_some (set xs i (Some x)) in
      let same = length-set xs i (Some x) in
      omega arith
