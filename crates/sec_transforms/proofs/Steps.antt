-- One byte more of a command line.
use Rattle.std.proofs.Common.{◌≡◌, ℕ, Bool, true, false, List, [], ◌∷◌, map, refl, sym, ap, ◌∙◌, ◌++◌, append_assoc, arith}
use Rattle.std.specs.Bool.{◌==◌}
use Rattle.std.proofs.lemmas.Bool.Decides.{nat_tests}
use Rattle.std.specs.Char.{to_ascii_lowercase}
use Rattle.sec_transforms.specs.CmdLine.{is_mark, is_blank, spaced, closes, squeezed, closed_up, tidied, spread, to_come}

no_space : (c : ℕ) → is_blank c ≡ false → (c == 32) ≡ false
no_space c e = grind (arith, nat_tests, e)

squeezed_one : (c : ℕ) (s : List ℕ) → (c == 32) ≡ false → squeezed (c ∷ s) ≡ c ∷ squeezed s
unfolding squeezed
squeezed_one c [] e = refl
squeezed_one c (b ∷ bs) e = rw e refl

closed_one : (c : ℕ) (s : List ℕ) → (c == 32) ≡ false → closed_up (c ∷ s) ≡ c ∷ closed_up s
unfolding closed_up
closed_one c [] e = refl
closed_one c (b ∷ bs) e = rw e refl

squeezed_two : (c : ℕ) (s : List ℕ) → (c == 32) ≡ false → squeezed (32 ∷ c ∷ s) ≡ 32 ∷ c ∷ squeezed s
unfolding squeezed
squeezed_two c s e = rw e (ap (λ (l : List ℕ). 32 ∷ l) (squeezed_one c s e))

plain : (c : ℕ) (s : List ℕ) → (c == 32) ≡ false → tidied (c ∷ s) ≡ to_ascii_lowercase c ∷ tidied s
plain c s e = ap (map to_ascii_lowercase) (ap closed_up (squeezed_one c s e) ∙ closed_one c (squeezed s) e)

closing : (c : ℕ) (s : List ℕ) → (c == 32) ≡ false → closes c ≡ true → tidied (32 ∷ c ∷ s) ≡ to_ascii_lowercase c ∷ tidied s
unfolding closed_up
closing c s e hit =
    let last : closed_up (32 ∷ c ∷ squeezed s) ≡ c ∷ closed_up (squeezed s) = rw hit (closed_one c (squeezed s) e) in
    ap (map to_ascii_lowercase) (ap closed_up (squeezed_two c s e) ∙ last)

apart : (c : ℕ) (s : List ℕ) → (c == 32) ≡ false → closes c ≡ false → tidied (32 ∷ c ∷ s) ≡ 32 ∷ to_ascii_lowercase c ∷ tidied s
unfolding closed_up
apart c s e miss =
    let last : closed_up (32 ∷ c ∷ squeezed s) ≡ 32 ∷ c ∷ closed_up (squeezed s) = rw miss (ap (λ (l : List ℕ). 32 ∷ l) (closed_one c (squeezed s) e)) in
    ap (map to_ascii_lowercase) (ap closed_up (squeezed_two c s e) ∙ last)

pub mark_step : (space : Bool) (c : ℕ) (rest : List ℕ) → is_mark c ≡ true → to_come space rest ≡ to_come space (c ∷ rest)
mark_step true c rest hit = rw hit refl
mark_step false c rest hit = rw hit refl

spread_blank : (c : ℕ) (rest : List ℕ) → is_mark c ≡ false → is_blank c ≡ true → spread (c ∷ rest) ≡ 32 ∷ spread rest
spread_blank c rest miss hit = rw (miss, hit, spaced) refl

pub blank_step : (space : Bool) (c : ℕ) (rest : List ℕ) → is_mark c ≡ false → is_blank c ≡ true → to_come true rest ≡ to_come space (c ∷ rest)
unfolding squeezed
blank_step true c rest miss hit = sym (ap (λ (l : List ℕ). tidied (32 ∷ l)) (spread_blank c rest miss hit))
blank_step false c rest miss hit = sym (ap tidied (spread_blank c rest miss hit))

pub plain_step : (c : ℕ) (rest : List ℕ) → is_mark c ≡ false → is_blank c ≡ false → to_ascii_lowercase c ∷ to_come false rest ≡ to_come false (c ∷ rest)
plain_step c rest miss none = rw (miss, none, spaced) (sym (plain c (spread rest) (no_space c none)))

pub closing_step : (c : ℕ) (rest : List ℕ) → is_mark c ≡ false → is_blank c ≡ false → closes c ≡ true → to_ascii_lowercase c ∷ to_come false rest ≡ to_come true (c ∷ rest)
closing_step c rest miss none hit = rw (miss, none, spaced) (sym (closing c (spread rest) (no_space c none) hit))

pub apart_step : (c : ℕ) (rest : List ℕ) → is_mark c ≡ false → is_blank c ≡ false → closes c ≡ false → 32 ∷ to_ascii_lowercase c ∷ to_come false rest ≡ to_come true (c ∷ rest)
apart_step c rest miss none off = rw (miss, none, spaced) (sym (apart c (spread rest) (no_space c none) off))

pub ends_plain : (space : Bool) → space ≡ false → to_come space [] ≡ []
unfolding squeezed closed_up
ends_plain true e = cc
ends_plain false e = refl

pub ends_space : (space : Bool) → space ≡ true → to_come space [] ≡ 32 ∷ []
unfolding squeezed closed_up
ends_space true e = refl
ends_space false e = cc

-- what is written comes off what was to come
pub written : (out new gives later now : List ℕ) → new ≡ out ++ gives → gives ++ later ≡ now → new ++ later ≡ out ++ now
written out new gives later now is parts = rw (is, append_assoc, parts) refl
