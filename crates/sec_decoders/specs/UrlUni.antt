-- The decoding of `%` escapes, `%u` escapes among them.
use Rattle.std.specs.Prelude.{ℕ, ◌-◌, ◌%◌, List, [], ◌∷◌, Option, Some, None, cond, ◌&&◌, ◌||◌, ◌==◌}
use Rattle.std.specs.Option.{option_map}
use Rattle.sec_decoders.specs.Pieces.{Piece, or_else, itself}
use Rattle.sec_decoders.specs.Digits.{within, hex_number}
use Rattle.sec_decoders.specs.declared.characters.TheConstants.{CAPITAL_U, PERCENT, PLUS, SMALL_U, SPACE}
use Rattle.sec_decoders.specs.declared.lengths.TheConstants.{FOUR_DIGIT_ESCAPE, PERCENT_ESCAPE}
use Rattle.sec_decoders.specs.declared.url.TheConstants.{FIRST_WIDE, LAST_WIDE, WIDE_OFFSET}

-- the low byte, or, for a full-width form, ff01 to ff5e, the letter itself
abbrev pub narrowed : ℕ → ℕ
narrowed n = cond (within FIRST_WIDE LAST_WIDE n) (n - WIDE_OFFSET) (n % 256)

-- `%u` or `%U` and four digits
abbrev pub percent_u : List ℕ → Option Piece
percent_u (p ∷ u ∷ a ∷ b ∷ c ∷ d ∷ rest) =
    cond (p == PERCENT && (u == SMALL_U || u == CAPITAL_U))
    (option_map (λ n. (narrowed n ∷ [], FOUR_DIGIT_ESCAPE)) (hex_number (a ∷ b ∷ c ∷ d ∷ [])))
    None
percent_u other = None

-- `%` and two digits
abbrev pub percent : List ℕ → Option Piece
percent (p ∷ a ∷ b ∷ rest) =
    cond (p == PERCENT) (option_map (λ n. (n ∷ [], PERCENT_ESCAPE)) (hex_number (a ∷ b ∷ []))) None
percent other = None

-- `+` is a space
abbrev pub plus : List ℕ → Option Piece
plus (p ∷ rest) = cond (p == PLUS) (Some (SPACE ∷ [], 1)) None
plus [] = None

abbrev pub url_uni : List ℕ → Piece
url_uni front = or_else (percent_u front) (or_else (percent front) (or_else (plus front) (itself front)))
