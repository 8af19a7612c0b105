-- The number of a text.
use Rattle.std.specs.Prelude.{ℕ, ◌+◌, ◌-◌, ◌*◌, ◌^◌, Bool, nat_le, cond, ◌&&◌, ◌||◌, ◌==◌, List, [], ◌∷◌, min, ℤ, pos, neg_ℤ}
use Rattle.std.specs.List.{take_while, fold}
use Rattle.std.specs.Char.{is_ascii_digit}
use Rattle.sec_ops.specs.declared.characters.TheConstants.{CARRIAGE_RETURN, MINUS, PLUS, SPACE, TAB, ZERO}
use Rattle.sec_ops.specs.declared.numbers.TheConstants.{DECIMAL}

abbrev pub is_whitespace : ℕ → Bool
is_whitespace c = (nat_le TAB c && nat_le c CARRIAGE_RETURN) || c == SPACE

abbrev pub is_digit : ℕ → Bool
is_digit c = is_ascii_digit c

-- the text after the whitespace at its front
unfoldable pub trimmed : List ℕ → List ℕ
trimmed [] = []
trimmed (c ∷ rest) = cond (is_whitespace c) (trimmed rest) (c ∷ rest)

abbrev pub next_digit : ℕ → ℕ → ℕ
next_digit sum c = sum * DECIMAL + (c - ZERO)

-- the number of the digits at the front, 0 where there is none
abbrev pub digits_number : List ℕ → ℕ
digits_number text = fold next_digit 0 (take_while is_digit text)

-- within -2^63 and 2^63 - 1
abbrev pub positive : ℕ → ℤ
positive n = pos (min n (2 ^ 63 - 1))

abbrev pub negative : ℕ → ℤ
negative n = neg_ℤ (pos (min n (2 ^ 63)))

-- at most one sign, and then digits
abbrev pub signed : List ℕ → ℤ
signed [] = pos 0
signed (c ∷ rest) =
    cond (c == MINUS) (negative (digits_number rest))
    (cond (c == PLUS) (positive (digits_number rest)) (positive (digits_number (c ∷ rest))))

abbrev pub number : List ℕ → ℤ
number text = signed (trimmed text)
