-- The decoding of `\` escapes as JavaScript writes them.
use Rattle.std.specs.Prelude.{ℕ, ◌+◌, ◌-◌, List, [], ◌∷◌, Option, Some, None, cond, take, length, nat_le, ◌&&◌, ◌==◌}
use Rattle.std.specs.List.{take_while}
use Rattle.std.specs.Option.{option_map}
use Rattle.sec_decoders.specs.Pieces.{Piece, or_else, itself}
use Rattle.sec_decoders.specs.Digits.{hex_number, is_octal, number_in}
use Rattle.sec_decoders.specs.UrlUni.{narrowed}
use Rattle.sec_decoders.specs.declared.characters.TheConstants.{BACKSLASH, BACKSPACE, BELL, CARRIAGE_RETURN, FORM_FEED, LINE_FEED, SMALL_A, SMALL_B, SMALL_F, SMALL_N, SMALL_R, SMALL_T, SMALL_U, SMALL_V, SMALL_X, TAB, THREE, VERTICAL_TAB}
use Rattle.sec_decoders.specs.declared.lengths.TheConstants.{FOUR_DIGIT_ESCAPE, MAX_OCTALS, PAIR, X_ESCAPE}
use Rattle.sec_decoders.specs.declared.digits.TheConstants.{OCTAL}

-- `\u` and four digits
abbrev pub backslash_u : List ℕ → Option Piece
backslash_u (s ∷ u ∷ a ∷ b ∷ c ∷ d ∷ rest) =
    cond (s == BACKSLASH && u == SMALL_U)
    (option_map (λ n. (narrowed n ∷ [], FOUR_DIGIT_ESCAPE)) (hex_number (a ∷ b ∷ c ∷ d ∷ [])))
    None
backslash_u other = None

-- `\x` and two digits
abbrev pub backslash_x : List ℕ → Option Piece
backslash_x (s ∷ x ∷ a ∷ b ∷ rest) =
    cond (s == BACKSLASH && x == SMALL_X) (option_map (λ n. (n ∷ [], X_ESCAPE)) (hex_number (a ∷ b ∷ []))) None
backslash_x other = None

-- the octal digits at the front: at most three, and one less where the first is above 3
abbrev pub octals : List ℕ → List ℕ
octals [] = []
octals (a ∷ rest) = take_while is_octal (take (cond (nat_le a THREE) MAX_OCTALS (MAX_OCTALS - 1)) (a ∷ rest))

-- `\` and octal digits
abbrev pub backslash_octal : List ℕ → Option Piece
backslash_octal (s ∷ a ∷ rest) =
    cond (s == BACKSLASH && is_octal a)
    (Some (number_in OCTAL (octals (a ∷ rest)) ∷ [], 1 + length (octals (a ∷ rest))))
    None
backslash_octal other = None

-- the byte that a letter stands for in ANSI C, and another byte for itself
abbrev pub ansi : ℕ → ℕ
ansi c =
    cond (c == SMALL_A) BELL
    (cond (c == SMALL_B) BACKSPACE
    (cond (c == SMALL_F) FORM_FEED
    (cond (c == SMALL_N) LINE_FEED
    (cond (c == SMALL_R) CARRIAGE_RETURN
    (cond (c == SMALL_T) TAB
    (cond (c == SMALL_V) VERTICAL_TAB c))))))

-- `\` and another byte
abbrev pub backslash : List ℕ → Option Piece
backslash (s ∷ a ∷ rest) = cond (s == BACKSLASH) (Some (ansi a ∷ [], PAIR)) None
backslash other = None

abbrev pub js : List ℕ → Piece
js front =
    or_else (backslash_u front) (or_else (backslash_x front) (or_else (backslash_octal front)
    (or_else (backslash front) (itself front))))
