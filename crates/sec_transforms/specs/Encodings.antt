-- Encodings of bytes as texts, read leniently.
use Rattle.std.specs.Prelude.{ℕ, ◌+◌, ◌-◌, ◌*◌, ◌/◌, ◌^◌, ◌%◌, Bool, not, cond, ◌||◌, ◌==◌, List, [], ◌∷◌, filter, Result, Ok, Err}
use Rattle.std.specs.List.{take_while}
use Rattle.hex.specs.Hex.{decode_of}
use Rattle.hex.specs.declared.error.FromHexError.{FromHexError}
use Rattle.sec_decoders.specs.Digits.{is_decimal, within}
use Rattle.sec_decoders.specs.Pieces.{Piece}
use Rattle.sec_decoders.specs.declared.characters.TheConstants.{CAPITAL_A, CARRIAGE_RETURN, LINE_FEED, PLUS, SMALL_A, ZERO}
use Rattle.sec_transforms.specs.declared.characters.TheConstants.{CAPITAL_Z, SLASH, SMALL_Z}
use Rattle.sec_transforms.specs.declared.letters.TheConstants.{DIGITS, PLUS_SEXTET, SLASH_SEXTET, SMALL_LETTERS}

-- a letter of the alphabet of base64 (RFC 4648, section 4)
abbrev pub is_letter : ℕ → Bool
is_letter c =
    within CAPITAL_A CAPITAL_Z c || within SMALL_A SMALL_Z c || is_decimal c || c == PLUS || c == SLASH

-- its six bits: capital letters, small ones, digits, `+` and `/` count from 0
abbrev pub sextet : ℕ → ℕ
sextet c =
    cond (within CAPITAL_A CAPITAL_Z c) (c - CAPITAL_A)
    (cond (within SMALL_A SMALL_Z c) (c - SMALL_A + SMALL_LETTERS)
    (cond (is_decimal c) (c - ZERO + DIGITS)
    (cond (c == PLUS) PLUS_SEXTET (cond (c == SLASH) SLASH_SEXTET 0))))

abbrev pub is_line_end : ℕ → Bool
is_line_end c = c == CARRIAGE_RETURN || c == LINE_FEED

-- the letters up to the first byte that is neither a letter nor a line end
abbrev pub letters_of : List ℕ → List ℕ
letters_of value = take_while is_letter (filter (λ c. not (is_line_end c)) value)

-- six bits of a letter, and the upper two of the next
abbrev pub first_byte : ℕ → ℕ → ℕ
first_byte a b = sextet a * 2 ^ 2 + sextet b / 2 ^ 4

-- the lower four bits of a letter, and the upper four of the next
abbrev pub second_byte : ℕ → ℕ → ℕ
second_byte b c = sextet b % 2 ^ 4 * 2 ^ 4 + sextet c / 2 ^ 2

-- the lower two bits of a letter, and the six of the next
abbrev pub third_byte : ℕ → ℕ → ℕ
third_byte c d = sextet c % 2 ^ 2 * 2 ^ 6 + sextet d

-- four letters give three bytes; two or three that are left give one or two, and one gives none
abbrev pub group : List ℕ → Piece
group (a ∷ b ∷ c ∷ d ∷ rest) = (first_byte a b ∷ second_byte b c ∷ third_byte c d ∷ [], 4)
group (a ∷ b ∷ c ∷ []) = (first_byte a b ∷ second_byte b c ∷ [], 3)
group (a ∷ b ∷ []) = (first_byte a b ∷ [], 2)
group other = ([], 1)

abbrev pub or_value : List ℕ → Result (List ℕ) FromHexError → List ℕ
or_value value (Ok bytes) = bytes
or_value value (Err e) = value

-- the bytes of a text that is pairs of hexadecimal digits, and any other text itself
abbrev pub bytes_of_hex : List ℕ → List ℕ
bytes_of_hex value = or_value value (decode_of value)
