-- Whitespace at both ends, byte by byte.
use Rattle.std.proofs.Common.{◌≡◌, ℕ, ◌+◌, ◌<◌, ◌≤◌, true, false, List, [], ◌∷◌, ◌++◌, length, get_or, drop, refl, sym, ap, ◌∙◌, add-one, drop-cons, arith}
use Rattle.std.proofs.lemmas.List.{drop_all}
use Rattle.sec_transforms.specs.Whitespace.{is_white, trimmed_left, trimmed_right, kept_before}

pub white_turn : (xs : List ℕ) (i : ℕ) (whole : List ℕ) → i < length xs → is_white (get_or xs i 0) ≡ true → trimmed_left (drop i xs) ≡ whole → trimmed_left (drop (i + 1) xs) ≡ whole
unfolding trimmed_left
white_turn xs i whole below hit left =
    let e : drop i xs ≡ get_or xs i 0 ∷ drop (i + 1) xs = rw (add-one, drop-cons xs i 0) refl in
    let step : trimmed_left (get_or xs i 0 ∷ drop (i + 1) xs) ≡ trimmed_left (drop (i + 1) xs) = rw hit refl in
    sym step ∙ ap trimmed_left (sym e) ∙ left

pub white_stop : (xs : List ℕ) (i : ℕ) (whole : List ℕ) → i < length xs → is_white (get_or xs i 0) ≡ false → trimmed_left (drop i xs) ≡ whole → drop i xs ≡ whole
unfolding trimmed_left
white_stop xs i whole below miss left =
    let e : drop i xs ≡ get_or xs i 0 ∷ drop (i + 1) xs = rw (add-one, drop-cons xs i 0) refl in
    let step : trimmed_left (get_or xs i 0 ∷ drop (i + 1) xs) ≡ get_or xs i 0 ∷ drop (i + 1) xs = rw miss refl in
    e ∙ sym step ∙ ap trimmed_left (sym e) ∙ left

pub white_end : (xs : List ℕ) (i : ℕ) (whole : List ℕ) → length xs ≤ i → trimmed_left (drop i xs) ≡ whole → [] ≡ whole
unfolding trimmed_left
white_end xs i whole past left = ap trimmed_left (sym (drop_all i xs past)) ∙ left

-- whitespace behind a text is dropped
pub last_white : (xs : List ℕ) (c : ℕ) → is_white c ≡ true → trimmed_right (xs ++ c ∷ []) ≡ trimmed_right xs
unfolding trimmed_right
last_white [] c hit = rw hit refl
last_white (x ∷ xs) c hit = ap (kept_before x) (last_white xs c hit)

-- before another byte nothing is
before_more : (x : ℕ) (xs : List ℕ) (c : ℕ) → kept_before x (xs ++ c ∷ []) ≡ x ∷ (xs ++ c ∷ [])
before_more x [] c = refl
before_more x (y ∷ ys) c = refl

pub last_stays : (xs : List ℕ) (c : ℕ) → is_white c ≡ false → trimmed_right (xs ++ c ∷ []) ≡ xs ++ c ∷ []
unfolding trimmed_right
last_stays [] c miss = rw miss refl
last_stays (x ∷ xs) c miss = ap (kept_before x) (last_stays xs c miss) ∙ before_more x xs c

pub none_kept : (xs : List ℕ) → length xs ≡ 0 → trimmed_right xs ≡ xs
unfolding trimmed_right
none_kept [] e = refl
none_kept (x ∷ xs) e = absurd (omega arith)

-- one byte less at the end
pub white_back : (kept front text : List ℕ) (c : ℕ) → kept ≡ front ++ c ∷ [] → is_white c ≡ true → trimmed_right kept ≡ text → trimmed_right front ≡ text
white_back kept front text c is hit left = sym (last_white front c hit) ∙ ap trimmed_right (sym is) ∙ left

pub stays_back : (kept front text : List ℕ) (c : ℕ) → kept ≡ front ++ c ∷ [] → is_white c ≡ false → trimmed_right kept ≡ text → kept ≡ text
stays_back kept front text c is miss left = is ∙ sym (last_stays front c miss) ∙ ap trimmed_right (sym is) ∙ left

pub none_back : (kept text : List ℕ) → length kept ≡ 0 → trimmed_right kept ≡ text → kept ≡ text
none_back kept text none left = sym (none_kept kept none) ∙ left
