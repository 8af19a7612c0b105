-- Lists that grow at their end.
use Rattle.std.proofs.Common.{◌≡◌, ℕ, suc, zero, ◌+◌, List, [], ◌++◌, append_assoc, append-nil, sym, ◌∙◌, ap, add-zero, add-one, arith}
use Rattle.std.specs.List.{flat_map, range_with_len}

pub three : (a b c d x y z : List ℕ) → a ≡ [] → b ≡ a ++ x → c ≡ b ++ y → d ≡ c ++ z → d ≡ x ++ (y ++ (z ++ []))
three a b c d x y z none first second third =
    third ∙ ap (λ (l : List ℕ). l ++ z) (second ∙ ap (λ (l : List ℕ). l ++ y) (first ∙ ap (λ (l : List ℕ). l ++ x) none))
    ∙ append_assoc x y z ∙ ap (λ (l : List ℕ). x ++ (y ++ l)) (sym (append-nil z))

-- the pieces of one number more
flat_range_suc : {A : Type 0} (f : ℕ → List A) (a n : ℕ) → flat_map f (range_with_len a (suc n)) ≡ flat_map f (range_with_len a n) ++ f (a + n)
flat_range_suc f a zero = append-nil (f a) ∙ ap f (sym (add-zero a))
flat_range_suc f a (suc n) =
    let next : (a + 1) + n ≡ a + suc n = omega arith in
    ap (λ l. f a ++ l) (flat_range_suc f (a + 1) n) ∙ sym (append_assoc (f a) (flat_map f (range_with_len (a + 1) n)) (f ((a + 1) + n)))
    ∙ ap (λ (k : ℕ). (f a ++ flat_map f (range_with_len (a + 1) n)) ++ f k) next

pub flat_range_more : {A : Type 0} (f : ℕ → List A) (a n k : ℕ) → a + n ≡ k → flat_map f (range_with_len a (n + 1)) ≡ flat_map f (range_with_len a n) ++ f k
flat_range_more f a n k is = rw add-one (flat_range_suc f a n ∙ ap (λ (j : ℕ). flat_map f (range_with_len a n) ++ f j) is)

pub grown : {A : Type 0} (f : ℕ → List A) (before now new : List A) (a n k : ℕ) →
    now ≡ before ++ flat_map f (range_with_len a n) → new ≡ now ++ f k → a + n ≡ k → new ≡ before ++ flat_map f (range_with_len a (n + 1))
grown f before now new a n k so_far more is =
    more ∙ ap (λ l. l ++ f k) so_far ∙ append_assoc before (flat_map f (range_with_len a n)) (f k) ∙ ap (λ l. before ++ l) (sym (flat_range_more f a n k is))
