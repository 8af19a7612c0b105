-- Numbers from 0 to 255, and ranges of them, as words.
use Rattle.std.specs.Prelude.{ℕ, Bool, true, false, not, cond, ◌&&◌, ◌==◌, nat_le, nat_lt, List, [], ◌∷◌, length, drop, Option, Some, None}
use Rattle.std.specs.List.{take_while, list_all, list_any}
use Rattle.std.specs.Option.{option_map}
use Rattle.sec_ops.specs.Number.{is_digit, digits_number}
use Rattle.sec_ops.specs.declared.characters.TheConstants.{MINUS, ZERO}

-- at least one byte, and no zero before another one
abbrev pub has_plain_front : List ℕ → Bool
has_plain_front [] = false
has_plain_front (c ∷ []) = true
has_plain_front (c ∷ d ∷ rest) = not (c == ZERO)

-- digits, at least one, without a leading zero
abbrev pub is_plain : List ℕ → Bool
is_plain text = has_plain_front text && list_all is_digit text

abbrev pub byte_or_none : ℕ → Option ℕ
byte_or_none n = cond (nat_lt n 256) (Some n) None

-- a number that is a byte
unfoldable pub byte_of : List ℕ → Option ℕ
byte_of text = cond (is_plain text) (byte_or_none (digits_number text)) None

abbrev pub pair_of : Option ℕ → Option ℕ → Option (ℕ × ℕ)
pair_of (Some low) (Some high) = cond (nat_le low high) (Some (low, high)) None
pair_of (Some low) None = None
pair_of None high = None

-- a number alone, or two joined by `-`, the first not greater
abbrev pub range_from : Option ℕ → List ℕ → Option (ℕ × ℕ)
range_from low [] = option_map (λ n. (n, n)) low
range_from low (c ∷ rest) = cond (c == MINUS) (pair_of low (byte_of rest)) None

unfoldable pub range_of : List ℕ → Option (ℕ × ℕ)
range_of word = range_from (byte_of (take_while is_digit word)) (drop (length (take_while is_digit word)) word)

abbrev pub is_in_range : ℕ → Option (ℕ × ℕ) → Bool
is_in_range c None = false
is_in_range c (Some range) = nat_le range.0 c && nat_le c range.1

-- some byte is in none of the ranges
abbrev pub has_other : List (Option (ℕ × ℕ)) → List ℕ → Bool
has_other ranges value = list_any (λ c. not (list_any (is_in_range c) ranges)) value
