-- References to characters, as HTML writes them.
use Rattle.std.specs.Prelude.{ℕ, ◌+◌, ◌%◌, cond, ◌&&◌, ◌||◌, ◌==◌, List, [], ◌∷◌, map, take, drop, length, Option, Some, None, codes}
use Rattle.std.specs.List.{take_while}
use Rattle.std.specs.Char.{to_ascii_lowercase}
use Rattle.std.specs.Str.{bytes_eq}
use Rattle.sec_decoders.specs.Digits.{is_hex, is_decimal, number_in}
use Rattle.sec_decoders.specs.Pieces.{Piece, or_else, itself}
use Rattle.sec_decoders.specs.declared.characters.TheConstants.{AMPERSAND, CAPITAL_X, GREATER_THAN, HASH, LESS_THAN, NO_BREAK_SPACE, QUOTE, SEMICOLON, SMALL_X}
use Rattle.sec_decoders.specs.declared.lengths.TheConstants.{DECIMAL_REFERENCE, HEX_REFERENCE}
use Rattle.sec_decoders.specs.declared.digits.TheConstants.{DECIMAL, HEXADECIMAL}

-- one semicolon directly after
abbrev pub semicolon : List ℕ → ℕ
semicolon [] = 0
semicolon (c ∷ rest) = cond (c == SEMICOLON) 1 0

-- one digit or more at the front of a text, after so many bytes: their number modulo 256
abbrev pub numbered : ℕ → ℕ → List ℕ → List ℕ → Option Piece
numbered base before digits text =
    cond (length digits == 0) None
    (Some ((number_in base digits % 256) ∷ [], before + length digits + semicolon (drop (length digits) text)))

-- what hexadecimal digits after `&#x` give
abbrev pub hex_numbered : List ℕ → Option Piece
hex_numbered text = numbered HEXADECIMAL HEX_REFERENCE (take_while is_hex text) text

-- what decimal digits after `&#` give
abbrev pub decimal_numbered : List ℕ → Option Piece
decimal_numbered text = numbered DECIMAL DECIMAL_REFERENCE (take_while is_decimal text) text

-- `&#x` or `&#X` and hexadecimal digits
abbrev pub hex_entity : List ℕ → Option Piece
hex_entity (a ∷ h ∷ x ∷ rest) =
    cond (a == AMPERSAND && h == HASH && (x == SMALL_X || x == CAPITAL_X)) (hex_numbered rest) None
hex_entity other = None

-- `&#` and decimal digits
abbrev pub decimal_entity : List ℕ → Option Piece
decimal_entity (a ∷ h ∷ rest) = cond (a == AMPERSAND && h == HASH) (decimal_numbered rest) None
decimal_entity other = None

-- a word, without regard to case
abbrev pub named : List ℕ → ℕ → List ℕ → Option Piece
named word byte front =
    cond (bytes_eq (map to_ascii_lowercase (take (length word) front)) (map to_ascii_lowercase word))
    (Some (byte ∷ [], length word + semicolon (drop (length word) front)))
    None

abbrev pub or_row : Option Piece → Option Piece → Option Piece
or_row (Some row) other = Some row
or_row None other = other

-- the five names
abbrev pub name_entity : List ℕ → Option Piece
name_entity front =
    or_row (named (codes "&quot") QUOTE front)
    (or_row (named (codes "&amp") AMPERSAND front)
    (or_row (named (codes "&lt") LESS_THAN front)
    (or_row (named (codes "&gt") GREATER_THAN front)
    (named (codes "&nbsp") NO_BREAK_SPACE front))))

abbrev pub entities : List ℕ → Piece
entities front =
    or_else (hex_entity front) (or_else (decimal_entity front) (or_else (name_entity front) (itself front)))
