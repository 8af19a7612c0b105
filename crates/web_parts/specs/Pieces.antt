-- Texts that a byte parts, and blanks at their ends.
use Rattle.std.specs.Prelude.{ℕ, ◌+◌, ◌||◌, ◌==◌, Bool, cond, List, [], ◌∷◌, drop, reverse, position, Option}
use Rattle.std.specs.List.{slice_split, before_first}
use Rattle.std.specs.Option.{option_map}
use Rattle.web_parts.specs.declared.pieces.TheConstants.{SPACE, TAB}

-- the pieces between the marks; a text without one is a piece of its own
abbrev pub pieces : ℕ → List ℕ → List (List ℕ)
pieces mark text = slice_split (λ b. b == mark) text

-- the text before the first mark, or the whole
abbrev pub before : ℕ → List ℕ → List ℕ
before mark text = before_first (λ b. b == mark) text

-- the text after the first mark, where there is one
abbrev pub behind : ℕ → List ℕ → Option (List ℕ)
behind mark text = option_map (λ place. drop (place + 1) text) (position (λ b. b == mark) text)

-- a space or a tab
abbrev pub is_blank : ℕ → Bool
is_blank b = b == SPACE || b == TAB

-- without the blanks before the first other byte
abbrev pub without_start : List ℕ → List ℕ
without_start [] = []
without_start (b ∷ text) = cond (is_blank b) (without_start text) (b ∷ text)

-- without the blanks after the last other byte
abbrev pub without_end : List ℕ → List ℕ
without_end text = reverse (without_start (reverse text))

-- without the blanks at both ends
abbrev pub trimmed : List ℕ → List ℕ
trimmed text = without_end (without_start text)
