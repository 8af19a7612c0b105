-- Percent-encoding that is cut short.
use Rattle.std.specs.Prelude.{ℕ, Bool, false, not, ◌&&◌, ◌||◌, ◌==◌, List, [], ◌∷◌}
use Rattle.std.specs.Char.{is_ascii_hexdigit}
use Rattle.sec_ops.specs.declared.characters.TheConstants.{PERCENT}

-- two hexadecimal digits at the front
abbrev pub two_digits : List ℕ → Bool
two_digits (a ∷ b ∷ rest) = is_ascii_hexdigit a && is_ascii_hexdigit b
two_digits other = false

-- some `%` is not followed by two of them
unfoldable pub has_bad_escape : List ℕ → Bool
has_bad_escape [] = false
has_bad_escape (c ∷ rest) = (c == PERCENT && not (two_digits rest)) || has_bad_escape rest
