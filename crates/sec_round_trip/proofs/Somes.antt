-- Texts of some bytes.
use Rattle.std.proofs.Common.{◌≡◌, ℕ, ◌<◌, false, List, [], ◌∷◌, ◌++◌, length, refl, sym, arith}
use Rattle.std.proofs.lemmas.Bool.{false≢true}
use Rattle.sec_round_trip.specs.Targets.{is_empty}

pub some_front : (xs ys : List ℕ) → is_empty xs ≡ false → is_empty (xs ++ ys) ≡ false
some_front [] ys h = absurd (false≢true (sym h))
some_front (b ∷ xs) ys h = refl

pub some_back : (xs ys : List ℕ) → is_empty ys ≡ false → is_empty (xs ++ ys) ≡ false
some_back [] ys h = h
some_back (b ∷ xs) ys h = refl

pub some_length : (text : List ℕ) → 0 < length text → is_empty text ≡ false
some_length [] h = absurd (omega (arith, h))
some_length (b ∷ text) h = refl
