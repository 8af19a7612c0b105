-- The decoding of `\` escapes as CSS writes them.
use Rattle.std.specs.Prelude.{ℕ, ◌+◌, List, [], ◌∷◌, Option, Some, None, cond, take, drop, length, ◌&&◌, ◌||◌, ◌==◌}
use Rattle.std.specs.List.{take_while}
use Rattle.sec_decoders.specs.Pieces.{Piece, or_else, itself}
use Rattle.sec_decoders.specs.Digits.{within, is_hex, number_in}
use Rattle.sec_decoders.specs.UrlUni.{narrowed}
use Rattle.sec_decoders.specs.declared.characters.TheConstants.{BACKSLASH, CARRIAGE_RETURN, LINE_FEED, SPACE, TAB}
use Rattle.sec_decoders.specs.declared.lengths.TheConstants.{MAX_CSS_DIGITS, PAIR}
use Rattle.sec_decoders.specs.declared.digits.TheConstants.{HEXADECIMAL}

-- one whitespace byte at the front
abbrev pub space : List ℕ → ℕ
space [] = 0
space (c ∷ rest) = cond (within TAB CARRIAGE_RETURN c || c == SPACE) 1 0

-- the digits at the front, at most six
abbrev pub six_digits : List ℕ → List ℕ
six_digits text = take_while is_hex (take MAX_CSS_DIGITS text)

-- what one digit and more give, and a whitespace byte after them is dropped
abbrev pub css_digits : List ℕ → Option Piece
css_digits text =
    let digits = six_digits text in
    cond (length digits == 0) None
    (Some (narrowed (number_in HEXADECIMAL digits) ∷ [], 1 + length digits + space (drop (length digits) text)))

-- `\` and digits
abbrev pub css_number : List ℕ → Option Piece
css_number [] = None
css_number (s ∷ rest) = cond (s == BACKSLASH) (css_digits rest) None

-- `\` and a line feed give nothing
abbrev pub joined_line : List ℕ → Option Piece
joined_line (s ∷ a ∷ rest) = cond (s == BACKSLASH && a == LINE_FEED) (Some ([], PAIR)) None
joined_line other = None

-- `\` and another byte give that byte
abbrev pub plain_byte : List ℕ → Option Piece
plain_byte (s ∷ a ∷ rest) = cond (s == BACKSLASH) (Some (a ∷ [], PAIR)) None
plain_byte other = None

-- `\` at the end gives nothing
abbrev pub at_end : List ℕ → Option Piece
at_end (s ∷ []) = cond (s == BACKSLASH) (Some ([], 1)) None
at_end other = None

abbrev pub css : List ℕ → Piece
css front =
    or_else (css_number front) (or_else (joined_line front) (or_else (plain_byte front)
    (or_else (at_end front) (itself front))))
