-- The decoding of the escape sequences of ANSI C.
use Rattle.std.specs.Prelude.{ℕ, ◌+◌, ◌%◌, List, [], ◌∷◌, Option, Some, None, cond, take, length, ◌&&◌, ◌||◌, ◌==◌}
use Rattle.std.specs.List.{take_while}
use Rattle.std.specs.Option.{option_map}
use Rattle.sec_decoders.specs.Pieces.{Piece, or_else, itself}
use Rattle.sec_decoders.specs.Digits.{hex_number, is_octal, number_in}
use Rattle.sec_decoders.specs.JavaScript.{backslash}
use Rattle.sec_decoders.specs.declared.characters.TheConstants.{BACKSLASH, CAPITAL_X, SMALL_X}
use Rattle.sec_decoders.specs.declared.lengths.TheConstants.{MAX_OCTALS, X_ESCAPE}
use Rattle.sec_decoders.specs.declared.digits.TheConstants.{OCTAL}

-- `\x` or `\X` and two digits
abbrev pub escaped_x : List ℕ → Option Piece
escaped_x (s ∷ x ∷ a ∷ b ∷ rest) =
    cond (s == BACKSLASH && (x == SMALL_X || x == CAPITAL_X))
    (option_map (λ n. (n ∷ [], X_ESCAPE)) (hex_number (a ∷ b ∷ [])))
    None
escaped_x other = None

-- the octal digits at the front, at most three
abbrev pub three_octals : List ℕ → List ℕ
three_octals text = take_while is_octal (take MAX_OCTALS text)

-- `\` and octal digits, their number modulo 256
abbrev pub escaped_octal : List ℕ → Option Piece
escaped_octal (s ∷ a ∷ rest) =
    cond (s == BACKSLASH && is_octal a)
    (Some ((number_in OCTAL (three_octals (a ∷ rest)) % 256) ∷ [], 1 + length (three_octals (a ∷ rest))))
    None
escaped_octal other = None

abbrev pub escape_sequences : List ℕ → Piece
escape_sequences front =
    or_else (escaped_x front) (or_else (escaped_octal front) (or_else (backslash front) (itself front)))
