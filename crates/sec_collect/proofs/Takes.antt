-- The first bytes of texts one after the other.
use Rattle.std.proofs.Common.{◌≡◌, ◌∙◌, ℕ, ◌-◌, ◌≤◌, List, [], ◌∷◌, ◌++◌, length, take, zero, suc, refl, sym, ap, arith, append_assoc}
use Rattle.std.proofs.lemmas.List.{take_all, append-nil}

-- what there is room for behind other bytes
pub take_within : {A : Type 0} (n : ℕ) (xs ys : List A) → length xs ≤ n → xs ++ take (n - length xs) ys ≡ take n (xs ++ ys)
take_within n [] ys room = let e : n - 0 ≡ n = omega arith in rw e refl
take_within zero (x ∷ xs) ys room = absurd (omega (arith, room))
take_within (suc n) (x ∷ xs) ys room =
    let e : suc n - length (x ∷ xs) ≡ n - length xs = omega arith in rw e (ap (λ l. x ∷ l) (take_within n xs ys (omega (arith, room))))

-- what is cut later needs no more than what was cut before
pub take_more : {A : Type 0} (n : ℕ) (xs ys : List A) → take n (take n xs ++ ys) ≡ take n (xs ++ ys)
take_more zero xs ys = refl
take_more (suc n) [] ys = refl
take_more (suc n) (x ∷ xs) ys = ap (λ l. x ∷ l) (take_more n xs ys)

pub taken : {A : Type 0} (n : ℕ) (xs : List A) → length (take n xs) ≤ n
taken zero xs = omega arith
taken (suc n) [] = omega arith
taken (suc n) (x ∷ xs) = omega (arith, taken n xs)

-- what was cut, a further text, and the rest
pub cut_more : {A : Type 0} (n : ℕ) (out new text rest whole : List A) → new ≡ take n (out ++ text) → take n (out ++ (text ++ rest)) ≡ whole → take n (new ++ rest) ≡ whole
cut_more n out new text rest whole is left = rw is (take_more n (out ++ text) rest ∙ rw append_assoc left)

pub cut_all : {A : Type 0} (n : ℕ) (out whole : List A) → length out ≤ n → take n (out ++ []) ≡ whole → out ≡ whole
cut_all n out whole small left = sym (take_all n out small) ∙ ap (take n) (sym (append-nil out)) ∙ left
