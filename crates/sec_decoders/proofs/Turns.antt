-- A piece at the front, and then the rest.
use Rattle.std.proofs.Common.{◌≡◌, ℕ, zero, suc, ◌+◌, ◌-◌, ◌<◌, ◌≤◌, List, [], ◌∷◌, ◌++◌, length, take, drop, refl, sym, ap, ◌∙◌, arith, append_assoc, append-nil, length-append, length-take, true, false}
use Rattle.std.proofs.lemmas.List.{take-append-le, take_all, take-append-drop}
use Rattle.std.specs.Bool.{◌==◌}
use Rattle.std.proofs.lemmas.Bool.Decides.{nat_tests}
use Rattle.sec_decoders.specs.Pieces.{KeepsFront, pieces}

pub skipped : (piece : List ℕ → List ℕ × ℕ) (n : ℕ) (xs : List ℕ) → pieces piece n xs ≡ pieces piece 0 (drop n xs)
unfolding pieces
skipped piece zero xs = refl
skipped piece (suc n) [] = refl
skipped piece (suc n) (b ∷ bs) = skipped piece n bs

drop_more : (n b : ℕ) (bs : List ℕ) → 0 < n → drop (n - 1) bs ≡ drop n (b ∷ bs)
drop_more zero b bs some = absurd (omega arith)
drop_more (suc n) b bs some = let e : suc n - 1 ≡ n = omega arith in ap (λ k. drop k bs) e

pub turn : (piece : List ℕ → List ℕ × ℕ) (xs : List ℕ) → 0 < length xs → 0 < (piece xs).1 → pieces piece 0 xs ≡ (piece xs).0 ++ pieces piece 0 (drop (piece xs).1 xs)
unfolding pieces
turn piece [] some moves = absurd (omega arith)
turn piece (b ∷ bs) some moves =
    ap (λ (l : List ℕ). (piece (b ∷ bs)).0 ++ l) (skipped piece ((piece (b ∷ bs)).1 - 1) bs ∙ ap (pieces piece 0) (drop_more (piece (b ∷ bs)).1 b bs moves))

-- one turn of the loop: what is out and what is left
pub turned : (piece : List ℕ → List ℕ × ℕ) (out gives whole xs : List ℕ) (takes : ℕ) → out ++ pieces piece 0 xs ≡ whole → 0 < length xs → gives ≡ (piece xs).0 → takes ≡ (piece xs).1 → 0 < takes → (out ++ gives) ++ pieces piece 0 (drop takes xs) ≡ whole
turned piece out gives whole xs takes left some gives_is takes_is moves =
    rw (append_assoc, gives_is, takes_is) (ap (λ (l : List ℕ). out ++ l) (sym (turn piece xs some (rw (← takes_is) moves))) ∙ left)

-- at the end nothing is left
pub ended : (piece : List ℕ → List ℕ × ℕ) (out whole xs : List ℕ) → out ++ pieces piece 0 xs ≡ whole → xs ≡ [] → out ≡ whole
unfolding pieces
ended piece out whole xs left none =
    sym (append-nil out) ∙ ap (λ (l : List ℕ). out ++ pieces piece 0 l) (sym none) ∙ left

-- enough is out
pub enough : (n : ℕ) (out more whole : List ℕ) → out ++ more ≡ whole → n ≤ length out → take n out ≡ take n whole
enough n out more whole left fits = rw (← left) (sym (take-append-le n out more fits))

-- what a test of emptiness says
pub some_left : (xs : List ℕ) → (length xs == 0) ≡ false → 0 < length xs
some_left [] e = cc
some_left (b ∷ bs) e = omega arith

pub none_left : (xs : List ℕ) → (length xs == 0) ≡ true → xs ≡ []
none_left [] e = refl
none_left (b ∷ bs) e = grind (arith, nat_tests, e)

-- bytes that stand for themselves are out
pub after_plain : (piece : List ℕ → List ℕ × ℕ) (n : ℕ) (out whole xs : List ℕ) → out ++ pieces piece 0 xs ≡ whole → KeepsFront piece n xs → (out ++ take n xs) ++ pieces piece 0 (drop n xs) ≡ whole
after_plain piece n out whole xs left kept =
    append_assoc out (take n xs) (pieces piece 0 (drop n xs)) ∙ ap (λ (l : List ℕ). out ++ l) (sym kept) ∙ left

-- they fill the room that is left
pub filled : (piece : List ℕ → List ℕ × ℕ) (n room most : ℕ) (out plain whole xs : List ℕ) → out ++ pieces piece 0 xs ≡ whole → KeepsFront piece n xs → plain ≡ take n xs
    → room + length out ≡ most → room ≤ length plain → out ++ take room plain ≡ take most whole
filled piece n room most out plain whole xs left kept is sum fits =
    let more = pieces piece 0 (drop n xs) in
    let all : (out ++ plain) ++ more ≡ whole = rw is (after_plain piece n out whole xs left kept) in
    let parts : plain ≡ take room plain ++ drop room plain = sym (take-append-drop room plain) in
    let cut : (out ++ take room plain) ++ (drop room plain ++ more) ≡ whole =
    append_assoc out (take room plain) (drop room plain ++ more)
    ∙ ap (λ (l : List ℕ). out ++ l) (sym (append_assoc (take room plain) (drop room plain) more) ∙ ap (λ (l : List ℕ). l ++ more) (sym parts))
    ∙ sym (append_assoc out plain more) ∙ all in
    let long : length (out ++ take room plain) ≡ most = omega (arith, length-append out (take room plain), length-take room plain) in
    let low : most ≤ length (out ++ take room plain) = omega arith in
    let high : length (out ++ take room plain) ≤ most = omega arith in
    sym (take_all most (out ++ take room plain) high) ∙ enough most (out ++ take room plain) (drop room plain ++ more) whole cut low
