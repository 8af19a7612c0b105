-- Sequences of two to four bytes of UTF-8 (RFC 3629, section 3), and how they are shown.
use Rattle.std.specs.Prelude.{ℕ, ◌+◌, ◌-◌, ◌*◌, ◌/◌, ◌^◌, ◌%◌, Bool, nat_lt, cond, ◌&&◌, List, [], ◌∷◌, Option, Some, None}
use Rattle.std.specs.Option.{option_map}
use Rattle.sec_decoders.specs.Digits.{within}
use Rattle.sec_decoders.specs.Pieces.{Piece, or_else, itself}
use Rattle.sec_decoders.specs.declared.characters.TheConstants.{PERCENT, SMALL_A, SMALL_U, ZERO}
use Rattle.sec_decoders.specs.declared.digits.TheConstants.{DECIMAL, HEXADECIMAL}
use Rattle.sec_decoders.specs.declared.unicode.TheConstants.{MAX_LEAD_OF_FOUR, MAX_LEAD_OF_THREE, MAX_LEAD_OF_TWO, MAX_TAIL, MIN_LEAD_OF_FOUR, MIN_LEAD_OF_THREE, MIN_LEAD_OF_TWO, MIN_TAIL}

-- neither the first byte of a sequence nor above all of these
abbrev pub is_no_lead : ℕ → Bool
is_no_lead c = nat_lt c MIN_LEAD_OF_TWO

abbrev pub tail : ℕ → Bool
tail c = within MIN_TAIL MAX_TAIL c

-- the number of the payload bits, six of each byte after the first, and the number of bytes
abbrev pub two : List ℕ → Option (ℕ × ℕ)
two (a ∷ b ∷ rest) =
    cond (within MIN_LEAD_OF_TWO MAX_LEAD_OF_TWO a && tail b)
    (Some ((a - MIN_LEAD_OF_TWO) * 2 ^ 6 + (b - MIN_TAIL), 2))
    None
two other = None

abbrev pub three : List ℕ → Option (ℕ × ℕ)
three (a ∷ b ∷ c ∷ rest) =
    cond (within MIN_LEAD_OF_THREE MAX_LEAD_OF_THREE a && tail b && tail c)
    (Some ((a - MIN_LEAD_OF_THREE) * 2 ^ 12 + (b - MIN_TAIL) * 2 ^ 6 + (c - MIN_TAIL), 3))
    None
three other = None

abbrev pub four : List ℕ → Option (ℕ × ℕ)
four (a ∷ b ∷ c ∷ d ∷ rest) =
    cond (within MIN_LEAD_OF_FOUR MAX_LEAD_OF_FOUR a && tail b && tail c && tail d)
    (Some ((a - MIN_LEAD_OF_FOUR) * 2 ^ 18 + (b - MIN_TAIL) * 2 ^ 12 + (c - MIN_TAIL) * 2 ^ 6 + (d - MIN_TAIL), 4))
    None
four other = None

abbrev pub letter : ℕ → ℕ
letter n = cond (nat_lt n DECIMAL) (ZERO + n) (SMALL_A + (n - DECIMAL))

-- the hexadecimal digit that so many follow
abbrev pub digit_at : ℕ → ℕ → ℕ
digit_at place n = letter (n / HEXADECIMAL ^ place % HEXADECIMAL)

abbrev pub four_digits : ℕ → List ℕ
four_digits n = digit_at 3 n ∷ digit_at 2 n ∷ digit_at 1 n ∷ digit_at 0 n ∷ []

-- `%u` and the number in lower-case hexadecimal, of at least four digits
abbrev pub shown : ℕ → List ℕ
shown n =
    PERCENT ∷ SMALL_U ∷ cond (nat_lt n (HEXADECIMAL ^ 4)) (four_digits n)
    (cond (nat_lt n (HEXADECIMAL ^ 5)) (digit_at 4 n ∷ four_digits n)
    (digit_at 5 n ∷ digit_at 4 n ∷ four_digits n))

abbrev pub show_row : Option (ℕ × ℕ) → Option Piece
show_row row = option_map (λ w. (shown w.0, w.1)) row

abbrev pub unicode : List ℕ → Piece
unicode front =
    or_else (show_row (two front)) (or_else (show_row (three front)) (or_else (show_row (four front)) (itself front)))
