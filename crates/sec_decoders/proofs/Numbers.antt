-- Numbers that are read digit by digit.
use Rattle.std.proofs.Common.{◌≡◌, ℕ, zero, suc, ◌+◌, ◌*◌, ◌%◌, ◌^◌, ◌<◌, ◌≤◌, take, List, [], ◌∷◌, length, get_or, drop, refl, sym, ap, ◌∙◌, arith, add-one, drop-cons}
use Rattle.std.specs.List.{fold}
use Rattle.std.proofs.lemmas.List.{drop_all}
use Rattle.std.proofs.lemmas.Nat.{mul-mod_first}
use Rattle.std.proofs.Math.Nat.{pow-le-pow_right, pow-suc}
use Rattle.sec_decoders.specs.Digits.{next}

step_kept : (base s c : ℕ) → next base (s % 256) c % 256 ≡ next base s c % 256
step_kept base s c = let e = mul-mod_first s base 256 in omega (arith, e)

kept : (base s : ℕ) (ds : List ℕ) → fold (next base) (s % 256) ds % 256 ≡ fold (next base) s ds % 256
kept base s [] = omega arith
kept base s (c ∷ cs) =
    sym (kept base (next base (s % 256) c) cs) ∙ ap (λ (n : ℕ). fold (next base) n cs % 256) (step_kept base s c) ∙ kept base (next base s c) cs

-- one digit more, of which the low byte is kept
pub low_turn : (base s new : ℕ) (xs : List ℕ) (i whole : ℕ) → i < length xs → new ≡ next base s (get_or xs i 0) % 256
    → fold (next base) s (drop i xs) % 256 ≡ whole → fold (next base) new (drop (i + 1) xs) % 256 ≡ whole
low_turn base s new xs i whole below is left =
    let e : drop i xs ≡ get_or xs i 0 ∷ drop (i + 1) xs = rw (add-one, drop-cons xs i 0) refl in
    ap (λ (n : ℕ). fold (next base) n (drop (i + 1) xs) % 256) is ∙ kept base (next base s (get_or xs i 0)) (drop (i + 1) xs)
    ∙ ap (λ (l : List ℕ). fold (next base) s l % 256) (sym e) ∙ left

pub low_end : (base s : ℕ) (xs : List ℕ) (i whole : ℕ) → s < 256 → length xs ≤ i → fold (next base) s (drop i xs) % 256 ≡ whole → s ≡ whole
low_end base s xs i whole small past left =
    let e : fold (next base) s (drop i xs) ≡ s = ap (fold (next base) s) (drop_all i xs past) in omega (arith, e, left, ap (λ (n : ℕ). n % 256) e)

-- one digit more
pub turn : (base s new : ℕ) (xs : List ℕ) (i whole : ℕ) → i < length xs → new ≡ next base s (get_or xs i 0)
    → fold (next base) s (drop i xs) ≡ whole → fold (next base) new (drop (i + 1) xs) ≡ whole
turn base s new xs i whole below is left =
    let e : drop i xs ≡ get_or xs i 0 ∷ drop (i + 1) xs = rw (add-one, drop-cons xs i 0) refl in
    ap (λ (n : ℕ). fold (next base) n (drop (i + 1) xs)) is ∙ ap (fold (next base) s) (sym e) ∙ left

pub turns_end : (base s : ℕ) (xs : List ℕ) (i whole : ℕ) → length xs ≤ i → fold (next base) s (drop i xs) ≡ whole → s ≡ whole
turns_end base s xs i whole past left = sym (ap (fold (next base) s) (drop_all i xs past)) ∙ left

-- what is left of a text twice shortened stands at its front
pub twice : (k n : ℕ) (xs : List ℕ) → take (length (take k (take n xs))) xs ≡ take k (take n xs)
twice zero n xs = refl
twice (suc k) zero xs = refl
twice (suc k) (suc n) [] = refl
twice (suc k) (suc n) (x ∷ xs) = ap (λ (l : List ℕ). x ∷ l) (twice k n xs)

-- a number of at most five digits
pub short : (s i : ℕ) → s < 16 ^ i → i < 6 → s < 1048576
short s i small few =
    let few' : i ≤ 5 = omega arith in
    let some : 0 < 16 = omega arith in
    let le : 16 ^ i ≤ 16 ^ 5 = pow-le-pow_right {n = 16} some few' in
    omega (arith, small, le)

-- with one digit more
pub grown : (s d new i : ℕ) → s < 16 ^ i → d < 16 → new ≡ s * 16 + d → new < 16 ^ (i + 1)
grown s d new i small digit is = rw (add-one, pow-suc) (omega (arith, small, digit, is))
