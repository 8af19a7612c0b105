-- Bytes as escapes.
use Rattle.std.specs.Prelude.{ℕ, ◌+◌, ◌-◌, ◌/◌, ◌%◌, nat_lt, cond, List, [], ◌∷◌, ◌++◌}
use Rattle.sec_decoders.specs.declared.characters.TheConstants.{AMPERSAND, BACKSLASH, CAPITAL_A, HASH, PERCENT, SEMICOLON, SMALL_X, SPACE, ZERO}
use Rattle.sec_decoders.specs.declared.digits.TheConstants.{DECIMAL, HEXADECIMAL}

abbrev pub hex_letter : ℕ → ℕ
hex_letter n = cond (nat_lt n DECIMAL) (ZERO + n) (CAPITAL_A + (n - DECIMAL))

-- `41`
abbrev pub two_letters : ℕ → List ℕ
two_letters c = hex_letter (c / HEXADECIMAL) ∷ hex_letter (c % HEXADECIMAL) ∷ []

-- `%41`
abbrev pub percent_escape : ℕ → List ℕ
percent_escape c = PERCENT ∷ two_letters c

-- `&#x41;`
abbrev pub entity_escape : ℕ → List ℕ
entity_escape c = AMPERSAND ∷ HASH ∷ SMALL_X ∷ two_letters c ++ SEMICOLON ∷ []

-- `\x41`
abbrev pub x_escape : ℕ → List ℕ
x_escape c = BACKSLASH ∷ SMALL_X ∷ two_letters c

-- `\41` and a space
abbrev pub css_escape : ℕ → List ℕ
css_escape c = BACKSLASH ∷ two_letters c ++ SPACE ∷ []
