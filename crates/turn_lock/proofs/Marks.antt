-- Marks beside a list, and the items that they select.
use Rattle.std.proofs.Common.{◌≡◌, ◌≢◌, ℕ, zero, suc, ◌+◌, ◌<◌, ◌≤◌, Bool, true, false, List, [], ◌∷◌, ◌++◌, length, refl, ap, inl, inr, arith}
use Rattle.turn_lock.specs.History.{Interleaves}
use Rattle.turn_lock.specs.Marks.{selected, with_mark, mark_at, merged}

module _ {A : Type 0} where
  -- marks past the end of what was seen pick nothing
  pub selected_front : (bs : List Bool) (xs ys : List A) → length bs ≤ length xs → selected bs (xs ++ ys) ≡ selected bs xs
  selected_front [] xs ys h = refl
  selected_front (b ∷ bs) [] ys h = absurd (omega arith)
  selected_front (true ∷ bs) (x ∷ xs) ys h = λ k. x ∷ selected_front bs xs ys (omega arith) k
  selected_front (false ∷ bs) (x ∷ xs) ys h = selected_front bs xs ys (omega arith)

  pub selected_last : (bs : List Bool) (xs : List A) (x : A) → length bs ≤ length xs → selected (with_mark bs (length xs)) (xs ++ x ∷ []) ≡ selected bs xs ++ x ∷ []
  selected_last [] [] x h = refl
  selected_last [] (y ∷ ys) x h = selected_last [] ys x (omega arith)
  selected_last (b ∷ bs) [] x h = absurd (omega arith)
  selected_last (true ∷ bs) (y ∷ ys) x h = λ k. y ∷ selected_last bs ys x (omega arith) k
  selected_last (false ∷ bs) (y ∷ ys) x h = selected_last bs ys x (omega arith)

pub length_with_mark : (bs : List Bool) (n : ℕ) → length bs ≤ n → length (with_mark bs n) ≡ n + 1
length_with_mark [] zero h = refl
length_with_mark [] (suc n) h = let r = length_with_mark [] n (omega arith) in omega arith
length_with_mark (b ∷ bs) zero h = absurd (omega arith)
length_with_mark (b ∷ bs) (suc n) h = let r = length_with_mark bs n (omega arith) in omega arith

pub mark_past : (bs : List Bool) (p : ℕ) → length bs ≤ p → mark_at bs p ≡ 0
mark_past [] p h = refl
mark_past (b ∷ bs) zero h = absurd (omega arith)
mark_past (b ∷ bs) (suc p) h = mark_past bs p (omega arith)

pub mark_new : (bs : List Bool) (n : ℕ) → mark_at (with_mark bs n) n ≡ 1
mark_new [] zero = refl
mark_new [] (suc n) = mark_new [] n
mark_new (b ∷ bs) zero = refl
mark_new (b ∷ bs) (suc n) = mark_new bs n

pub mark_old : (bs : List Bool) (n p : ℕ) → p ≢ n → mark_at (with_mark bs n) p ≡ mark_at bs p
mark_old [] zero zero h = absurd (h refl)
mark_old [] zero (suc p) h = refl
mark_old [] (suc n) zero h = refl
mark_old [] (suc n) (suc p) h = mark_old [] n p (λ e. h (ap suc e))
mark_old (b ∷ bs) zero zero h = absurd (h refl)
mark_old (b ∷ bs) zero (suc p) h = refl
mark_old (b ∷ bs) (suc n) zero h = refl
mark_old (b ∷ bs) (suc n) (suc p) h = mark_old bs n p (λ e. h (ap suc e))

module _ {A : Type 0} where
  pub interleaves_left : (xs : List A) → Interleaves xs [] xs
  interleaves_left [] = (refl, refl)
  interleaves_left (x ∷ xs) = inl (xs, refl, interleaves_left xs)

  pub interleaves_right : (ys : List A) → Interleaves [] ys ys
  interleaves_right [] = (refl, refl)
  interleaves_right (y ∷ ys) = inr (ys, refl, interleaves_right ys)

  -- where no place is marked in both, the items of both interleave
  pub interleaves : (bs cs : List Bool) (xs : List A) → ((p : ℕ) → mark_at bs p + mark_at cs p ≤ 1) → Interleaves (selected bs xs) (selected cs xs) (selected (merged bs cs) xs)
  interleaves [] cs xs d = interleaves_right (selected cs xs)
  interleaves (b ∷ bs) [] xs d = interleaves_left (selected (b ∷ bs) xs)
  interleaves (b ∷ bs) (c ∷ cs) [] d = (refl, refl)
  interleaves (true ∷ bs) (true ∷ cs) (x ∷ xs) d = absurd (let h = d 0 in omega arith)
  interleaves (true ∷ bs) (false ∷ cs) (x ∷ xs) d = inl (selected bs xs, refl, interleaves bs cs xs (λ p. d (suc p)))
  interleaves (false ∷ bs) (true ∷ cs) (x ∷ xs) d = inr (selected cs xs, refl, interleaves bs cs xs (λ p. d (suc p)))
  interleaves (false ∷ bs) (false ∷ cs) (x ∷ xs) d = interleaves bs cs xs (λ p. d (suc p))

pub mark_merged : (bs cs : List Bool) (p : ℕ) → mark_at bs p + mark_at cs p ≤ 1 → mark_at (merged bs cs) p ≡ mark_at bs p + mark_at cs p
mark_merged [] cs p d = omega arith
mark_merged (b ∷ bs) [] p d = omega arith
mark_merged (true ∷ bs) (true ∷ cs) zero d = absurd (omega arith)
mark_merged (true ∷ bs) (false ∷ cs) zero d = refl
mark_merged (false ∷ bs) (true ∷ cs) zero d = refl
mark_merged (false ∷ bs) (false ∷ cs) zero d = refl
mark_merged (b ∷ bs) (c ∷ cs) (suc p) d = mark_merged bs cs p d

pub length_merged : (bs cs : List Bool) (n : ℕ) → length bs ≤ n → length cs ≤ n → length (merged bs cs) ≤ n
length_merged [] cs n h k = k
length_merged (b ∷ bs) [] n h k = h
length_merged (b ∷ bs) (c ∷ cs) zero h k = absurd (omega arith)
length_merged (b ∷ bs) (c ∷ cs) (suc n) h k = let r = length_merged bs cs n (omega arith) (omega arith) in omega arith

-- marks that cover n places are n or more
pub covers : (bs : List Bool) (n : ℕ) → ((p : ℕ) → p < n → mark_at bs p ≡ 1) → n ≤ length bs
covers [] zero h = omega arith
covers [] (suc n) h = absurd (let q = h 0 (omega arith) in omega arith)
covers (b ∷ bs) zero h = omega arith
covers (b ∷ bs) (suc n) h = let r = covers bs n (λ p l. h (suc p) (omega arith)) in omega arith

-- where each place is marked, all items are selected
pub selected_all : {A : Type 0} (bs : List Bool) (xs : List A) → ((p : ℕ) → p < length xs → mark_at bs p ≡ 1) → selected bs xs ≡ xs
selected_all [] [] h = refl
selected_all [] (x ∷ xs) h = absurd (let q = h 0 (omega arith) in omega arith)
selected_all (b ∷ bs) [] h = refl
selected_all (true ∷ bs) (x ∷ xs) h = λ k. x ∷ selected_all bs xs (λ p l. h (suc p) (omega arith)) k
selected_all (false ∷ bs) (x ∷ xs) h = absurd (let q = h 0 (omega arith) in omega arith)
