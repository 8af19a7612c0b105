-- Blanks and quoted texts.
use Rattle.std.specs.Prelude.{ℕ, ◌==◌, Bool, false, ◌||◌, ◌&&◌, List, [], ◌∷◌, drop, Option, Some, None, if◌then◌else◌}
use Rattle.std.specs.Option.{option_map}
use Rattle.sec_text.specs.declared.characters.TheConstants.{BACKSLASH, SPACE, TAB}

abbrev pub is_blank : ℕ → Bool
is_blank b = (b == SPACE) || (b == TAB)

-- a text and what is left, with a byte put before the text
abbrev pub behind : ℕ → Option (List ℕ × List ℕ) → Option (List ℕ × List ℕ)
behind b read = option_map (λ x. (b ∷ x.0, x.1)) read

-- What stands behind an opening quote: the text up to the first quote that no \ stands directly before, and what
-- follows that quote. In the text \ and the quote stand for the quote, and every other byte stands for itself.
abbrev pub quoted : ℕ → List ℕ → Option (List ℕ × List ℕ)
quoted quote [] = None
quoted quote (a ∷ []) = if a == quote then Some ([], []) else None
quoted quote (a ∷ b ∷ rest) =
    if a == quote then Some ([], b ∷ rest)
    else (if (a == BACKSLASH) && (b == quote) then behind quote (quoted quote rest)
    else behind a (quoted quote (b ∷ rest)))

-- The first byte of such a text, or none where the quote closes, and what follows. The call goes byte by byte.
abbrev pub begins : ℕ → List ℕ → Bool
begins b [] = false
begins b (a ∷ rest) = a == b

abbrev pub quoted_byte : ℕ → List ℕ → Option (Option ℕ × List ℕ)
quoted_byte quote [] = None
quoted_byte quote (a ∷ rest) =
    if a == quote then Some (None, rest)
    else (if (a == BACKSLASH) && begins quote rest then Some (Some quote, drop 1 rest) else Some (Some a, rest))
