-- Numbers in decimal digits.
use Rattle.std.specs.Prelude.{ℕ, ◌+◌, ◌-◌, ◌*◌, ◌==◌, Bool, false, not, ◌&&◌, nat_lt, nat_le, List, [], ◌∷◌, length, Option, Some, None, if◌then◌else◌}
use Rattle.std.specs.Char.{is_ascii_digit}
use Rattle.std.specs.List.{fold, list_all}
use Rattle.sec_parts.specs.declared.numbers.TheConstants.{BASE, MAX_DIGITS, ZERO}

-- the value of a text of digits
abbrev pub value_of : List ℕ → ℕ
value_of text = fold (λ n b. n * BASE + (b - ZERO)) 0 text

abbrev pub is_digit : ℕ → Bool
is_digit b = is_ascii_digit b

-- nought, or up to ten digits of which the first is another
abbrev pub is_number : List ℕ → Bool
is_number [] = false
is_number (b ∷ []) = is_digit b
is_number (b ∷ c ∷ rest) = not (b == ZERO) && list_all is_digit (b ∷ c ∷ rest) && nat_lt (length (c ∷ rest)) MAX_DIGITS

-- a number within these bounds
abbrev pub number_in : ℕ → ℕ → List ℕ → Option ℕ
number_in low high text =
    if is_number text && nat_le low (value_of text) && nat_le (value_of text) high then Some (value_of text) else None
