-- Numbers in decimal digits.
use Rattle.std.specs.Prelude.{ℕ, ◌==◌, ◌&&◌, Bool, false, not, nat_le, List, [], ◌∷◌, Option, Some, None, if◌then◌else◌}
use Rattle.std.specs.Char.{is_ascii_digit}
use Rattle.std.specs.List.{list_all}
use Rattle.std.specs.Str.Parse.{digits_value}
use Rattle.command_line.specs.declared.numbers.TheConstants.{NOUGHT}

-- nought, or digits of which the first is another
abbrev pub is_number : List ℕ → Bool
is_number [] = false
is_number (digit ∷ []) = is_ascii_digit digit
is_number (digit ∷ next ∷ rest) = not (digit == NOUGHT) && list_all is_ascii_digit (digit ∷ next ∷ rest)

-- the number that the digits write, where it is within these bounds
abbrev pub number_in : ℕ → ℕ → List ℕ → Option ℕ
number_in low high text =
    let number = digits_value 10 text in
    if is_number text && (nat_le low number && nat_le number high) then Some number else None
