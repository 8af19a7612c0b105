-- Numbers in decimal digits.
use Rattle.std.specs.Prelude.{ℕ, ◌+◌, ◌-◌, ◌*◌, ◌==◌, Bool, false, not, ◌&&◌, nat_le, List, [], ◌∷◌, length, Option, Some, None, if◌then◌else◌}
use Rattle.std.specs.Char.{is_ascii_digit}
use Rattle.std.specs.List.{fold, list_all}
use Rattle.replay_text.specs.declared.numbers.TheConstants.{BASE, MOST_DIGITS, ZERO}

-- the value of a text of digits
abbrev pub value_of : List ℕ → ℕ
value_of text = fold (λ n b. n * BASE + (b - ZERO)) 0 text

abbrev pub is_digit : ℕ → Bool
is_digit b = is_ascii_digit b

-- nought, or up to `MOST_DIGITS` digits of which the first is another
abbrev pub is_number : List ℕ → Bool
is_number [] = false
is_number (b ∷ []) = is_digit b
is_number (b ∷ c ∷ rest) = not (b == ZERO) && list_all is_digit (b ∷ c ∷ rest)
    && nat_le (length (b ∷ c ∷ rest)) MOST_DIGITS

-- a number that is at most this
abbrev pub number_to : ℕ → List ℕ → Option ℕ
number_to most text = if is_number text && nat_le (value_of text) most then Some (value_of text) else None
