-- Whitespace, and what is left without it.
use Rattle.std.specs.Prelude.{ℕ, ◌+◌, Bool, cond, ◌||◌, ◌==◌, List, [], ◌∷◌, length}
use Rattle.std.specs.List.{take_while}
use Rattle.sec_decoders.specs.Digits.{within}
use Rattle.sec_decoders.specs.Pieces.{Piece}
use Rattle.sec_decoders.specs.declared.characters.TheConstants.{CARRIAGE_RETURN, NO_BREAK_SPACE, SPACE, TAB}

-- tab to carriage return, and space
abbrev pub is_white : ℕ → Bool
is_white c = within TAB CARRIAGE_RETURN c || c == SPACE

-- these, and the no-break space of Latin 1
abbrev pub is_wide : ℕ → Bool
is_wide c = within TAB CARRIAGE_RETURN c || c == SPACE || c == NO_BREAK_SPACE

-- a run of wide whitespace gives a space
abbrev pub run : List ℕ → Piece
run [] = ([], 1)
run (c ∷ rest) = cond (is_wide c) (SPACE ∷ [], 1 + length (take_while is_wide rest)) (c ∷ [], 1)

-- without the whitespace at the start
unfoldable pub trimmed_left : List ℕ → List ℕ
trimmed_left [] = []
trimmed_left (c ∷ rest) = cond (is_white c) (trimmed_left rest) (c ∷ rest)

-- a byte before what is left of a text; whitespace that nothing follows is dropped
abbrev pub kept_before : ℕ → List ℕ → List ℕ
kept_before c [] = cond (is_white c) [] (c ∷ [])
kept_before c (d ∷ rest) = c ∷ d ∷ rest

-- without the whitespace at the end
unfoldable pub trimmed_right : List ℕ → List ℕ
trimmed_right [] = []
trimmed_right (c ∷ rest) = kept_before c (trimmed_right rest)
