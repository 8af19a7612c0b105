-- Digits of three bases, and the numbers that they write.
use Rattle.std.specs.Prelude.{ℕ, ◌+◌, ◌-◌, ◌*◌, List, [], ◌∷◌, Option, Some, None, Bool, nat_le, cond, ◌&&◌, is_some, unwrap_or, map}
use Rattle.std.specs.List.{fold}
use Rattle.sec_decoders.specs.declared.characters.TheConstants.{CAPITAL_A, CAPITAL_F, NINE, SEVEN, SMALL_A, SMALL_F, ZERO}
use Rattle.sec_decoders.specs.declared.digits.TheConstants.{DECIMAL, HEXADECIMAL}

abbrev pub within : ℕ → ℕ → ℕ → Bool
within low high n = nat_le low n && nat_le n high

abbrev pub is_decimal : ℕ → Bool
is_decimal c = within ZERO NINE c

-- the number of a hexadecimal digit: 0 to 9, a to f, A to F
abbrev pub hex_digit : ℕ → Option ℕ
hex_digit c =
    cond (is_decimal c) (Some (c - ZERO))
    (cond (within SMALL_A SMALL_F c) (Some (c - SMALL_A + DECIMAL))
    (cond (within CAPITAL_A CAPITAL_F c) (Some (c - CAPITAL_A + DECIMAL)) None))

-- digits behind a number that is read already
abbrev pub more_digits : Option ℕ → List (Option ℕ) → Option ℕ
more_digits sum [] = sum
more_digits None (d ∷ ds) = None
more_digits (Some sum) (None ∷ ds) = None
more_digits (Some sum) (Some d ∷ ds) = more_digits (Some (sum * HEXADECIMAL + d)) ds

-- the number of a text that is all hexadecimal digits
abbrev pub hex_number : List ℕ → Option ℕ
hex_number digits = more_digits (Some 0) (map hex_digit digits)

abbrev pub is_hex : ℕ → Bool
is_hex c = is_some (hex_digit c)

abbrev pub is_octal : ℕ → Bool
is_octal c = within ZERO SEVEN c

-- the number of a digit of any of these bases
abbrev pub digit_of : ℕ → ℕ
digit_of c = unwrap_or (hex_digit c) 0

abbrev pub next : ℕ → ℕ → ℕ → ℕ
next base sum c = sum * base + digit_of c

-- the number that digits write
abbrev pub number_in : ℕ → List ℕ → ℕ
number_in base digits = fold (next base) 0 digits
