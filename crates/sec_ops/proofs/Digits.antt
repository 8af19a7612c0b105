-- Digits that are read one by one, kept within 2 ^ 63.
use Rattle.std.proofs.Common.{◌≡◌, ℕ, ◌+◌, ◌^◌, ◌<◌, ◌≤◌, true, false, List, [], ◌∷◌, length, get_or, suc, take, drop, min, refl, sym, ap, ◌∙◌, arith, add-one, drop-cons}
use Rattle.std.specs.List.{take_while, prefix_len, fold}
use Rattle.std.proofs.lemmas.List.{drop_all}
use Rattle.sec_ops.specs.Number.{is_whitespace, is_digit, next_digit, trimmed}

abbrev pub counted : ℕ → List ℕ → ℕ
counted sum text = fold next_digit sum (take_while is_digit text)

counted_more : (sum c : ℕ) (rest : List ℕ) → is_digit c ≡ true → counted sum (c ∷ rest) ≡ counted (next_digit sum c) rest
counted_more sum c rest hit =
    let e : 1 + prefix_len is_digit rest ≡ suc (prefix_len is_digit rest) = omega arith in
    rw hit (ap (λ (k : ℕ). fold next_digit sum (take k (c ∷ rest))) e)

counted_stop : (sum c : ℕ) (rest : List ℕ) → is_digit c ≡ false → counted sum (c ∷ rest) ≡ sum
counted_stop sum c rest miss = rw miss refl

grows : (sum : ℕ) (digits : List ℕ) → sum ≤ fold next_digit sum digits
grows sum [] = omega arith
grows sum (c ∷ rest) = let later = grows (next_digit sum c) rest in omega (arith, later)

kept : (most sum : ℕ) (digits : List ℕ) → min (fold next_digit (min sum most) digits) most ≡ min (fold next_digit sum digits) most
kept most sum [] = omega arith
kept most sum (c ∷ rest) =
    let less = kept most (next_digit (min sum most) c) rest in
    let more = kept most (next_digit sum c) rest in
    let same : min (next_digit (min sum most) c) most ≡ min (next_digit sum c) most = omega arith in
    sym less ∙ ap (λ (s : ℕ). min (fold next_digit s rest) most) same ∙ more

pub digit_turn : (sum new : ℕ) (xs : List ℕ) (i whole : ℕ) → i < length xs → is_digit (get_or xs i 0) ≡ true → new ≡ min (next_digit sum (get_or xs i 0)) (2 ^ 63) → min (counted sum (drop i xs)) (2 ^ 63) ≡ whole → min (counted new (drop (i + 1) xs)) (2 ^ 63) ≡ whole
digit_turn sum new xs i whole below hit is left =
    let e : drop i xs ≡ get_or xs i 0 ∷ drop (i + 1) xs = rw (add-one, drop-cons xs i 0) refl in
    let rest = drop (i + 1) xs in
    let step = ap (counted sum) e ∙ counted_more sum (get_or xs i 0) rest hit in
    ap (λ (s : ℕ). min (counted s rest) (2 ^ 63)) is
    ∙ kept (2 ^ 63) (next_digit sum (get_or xs i 0)) (take_while is_digit rest)
    ∙ ap (λ (s : ℕ). min s (2 ^ 63)) (sym step) ∙ left

pub digit_stop : (sum : ℕ) (xs : List ℕ) (i whole : ℕ) → sum ≤ 2 ^ 63 → i < length xs → is_digit (get_or xs i 0) ≡ false → min (counted sum (drop i xs)) (2 ^ 63) ≡ whole → sum ≡ whole
digit_stop sum xs i whole small below miss left =
    let e : drop i xs ≡ get_or xs i 0 ∷ drop (i + 1) xs = rw (add-one, drop-cons xs i 0) refl in
    let step = ap (counted sum) e ∙ counted_stop sum (get_or xs i 0) (drop (i + 1) xs) miss in
    let same : min (counted sum (drop i xs)) (2 ^ 63) ≡ min sum (2 ^ 63) = ap (λ (s : ℕ). min s (2 ^ 63)) step in
    omega (arith, same, left)

pub digit_end : (sum : ℕ) (xs : List ℕ) (i whole : ℕ) → sum ≤ 2 ^ 63 → length xs ≤ i → min (counted sum (drop i xs)) (2 ^ 63) ≡ whole → sum ≡ whole
digit_end sum xs i whole small past left =
    let step : counted sum (drop i xs) ≡ sum = ap (counted sum) (drop_all i xs past) in
    let same : min (counted sum (drop i xs)) (2 ^ 63) ≡ min sum (2 ^ 63) = ap (λ (s : ℕ). min s (2 ^ 63)) step in
    omega (arith, same, left)

pub white_turn : (xs : List ℕ) (i : ℕ) (whole : List ℕ) → i < length xs → is_whitespace (get_or xs i 0) ≡ true → trimmed (drop i xs) ≡ whole → trimmed (drop (i + 1) xs) ≡ whole
unfolding trimmed
white_turn xs i whole below hit left =
    let e : drop i xs ≡ get_or xs i 0 ∷ drop (i + 1) xs = rw (add-one, drop-cons xs i 0) refl in
    let step : trimmed (get_or xs i 0 ∷ drop (i + 1) xs) ≡ trimmed (drop (i + 1) xs) = rw hit refl in
    sym step ∙ ap trimmed (sym e) ∙ left

pub white_stop : (xs : List ℕ) (i : ℕ) (whole : List ℕ) → i < length xs → is_whitespace (get_or xs i 0) ≡ false → trimmed (drop i xs) ≡ whole → drop i xs ≡ whole
unfolding trimmed
white_stop xs i whole below miss left =
    let e : drop i xs ≡ get_or xs i 0 ∷ drop (i + 1) xs = rw (add-one, drop-cons xs i 0) refl in
    let step : trimmed (get_or xs i 0 ∷ drop (i + 1) xs) ≡ get_or xs i 0 ∷ drop (i + 1) xs = rw miss refl in
    e ∙ sym step ∙ ap trimmed (sym e) ∙ left

pub white_end : (xs : List ℕ) (i : ℕ) (whole : List ℕ) → length xs ≤ i → trimmed (drop i xs) ≡ whole → [] ≡ whole
unfolding trimmed
white_end xs i whole past left = ap trimmed (sym (drop_all i xs past)) ∙ left
