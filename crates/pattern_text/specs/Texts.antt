-- The words in which the front of a pattern is read, and a byte as it is written.
use Rattle.std.specs.Prelude.{ℕ, ◌+◌, ◌-◌, ◌/◌, ◌%◌, ◌==◌, Bool, false, nat_eq, nat_lt, List, [], ◌∷◌, ◌++◌, codes, if◌then◌else◌}
use Rattle.std.specs.List.{list_any, prefix_len, starts_with}
use Rattle.std.specs.Char.{is_ascii_alphanumeric, is_ascii_digit}
use Rattle.pattern_text.specs.declared.characters.TheConstants.{CAPITAL_A, ZERO}
use Prim.Native.String.{String}

-- the text begins with this word
abbrev pub begins : String → List ℕ → Bool
begins word text = starts_with nat_eq text (codes word)

-- the byte is one of these
abbrev pub is_among : String → ℕ → Bool
is_among bytes b = list_any (λ c. c == b) (codes bytes)

-- the text begins with one of these bytes
abbrev pub begins_in : List ℕ → List ℕ → Bool
begins_in bytes [] = false
begins_in bytes (b ∷ rest) = list_any (λ c. c == b) bytes

abbrev pub begins_among : String → List ℕ → Bool
begins_among bytes text = begins_in (codes bytes) text

-- how many decimal digits stand at the front
abbrev pub digit_count : List ℕ → ℕ
digit_count text = prefix_len is_ascii_digit text

abbrev pub hex_letter : ℕ → ℕ
hex_letter n = if nat_lt n 10 then ZERO + n else CAPITAL_A + (n - 10)

-- a letter or digit stands for itself, and any other byte is written `\xHH`
unfoldable pub byte_text : ℕ → List ℕ
byte_text b =
    if is_ascii_alphanumeric b then b ∷ []
    else codes "\\x" ++ hex_letter (b / 16) ∷ hex_letter (b % 16) ∷ []
