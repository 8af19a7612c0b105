-- A command line, in five steps.
use Rattle.std.specs.Prelude.{ℕ, Bool, true, false, not, cond, ◌&&◌, ◌||◌, ◌==◌, List, [], ◌∷◌, map}
use Rattle.std.specs.List.{filter}
use Rattle.std.specs.Char.{to_ascii_lowercase}
use Rattle.sec_decoders.specs.declared.characters.TheConstants.{BACKSLASH, CARRIAGE_RETURN, LINE_FEED, QUOTE, SEMICOLON, SPACE, TAB}
use Rattle.sec_transforms.specs.declared.characters.TheConstants.{CIRCUMFLEX, COMMA, OPENING_PARENTHESIS, SINGLE_QUOTE, SLASH}

-- `\`, `"`, `'` and `^`
abbrev pub is_mark : ℕ → Bool
is_mark c = c == BACKSLASH || c == QUOTE || c == SINGLE_QUOTE || c == CIRCUMFLEX

-- space, `,`, `;`, tab, line feed and carriage return
abbrev pub is_blank : ℕ → Bool
is_blank c =
    c == SPACE || c == COMMA || c == SEMICOLON || c == TAB || c == LINE_FEED || c == CARRIAGE_RETURN

abbrev pub spaced : ℕ → ℕ
spaced c = cond (is_blank c) SPACE c

-- runs of spaces give one
unfoldable pub squeezed : List ℕ → List ℕ
squeezed [] = []
squeezed (a ∷ []) = a ∷ []
squeezed (a ∷ b ∷ rest) = cond (a == SPACE && b == SPACE) (squeezed (b ∷ rest)) (a ∷ squeezed (b ∷ rest))

abbrev pub closes : ℕ → Bool
closes c = c == SLASH || c == OPENING_PARENTHESIS

-- a space directly before `/` or `(` is dropped
unfoldable pub closed_up : List ℕ → List ℕ
closed_up [] = []
closed_up (a ∷ []) = a ∷ []
closed_up (a ∷ b ∷ rest) = cond (a == SPACE && closes b) (closed_up (b ∷ rest)) (a ∷ closed_up (b ∷ rest))

-- the last three steps
abbrev pub tidied : List ℕ → List ℕ
tidied text = map to_ascii_lowercase (closed_up (squeezed text))

-- the first two
abbrev pub spread : List ℕ → List ℕ
spread value = map spaced (filter (λ c. not (is_mark c)) value)

abbrev pub cmd_line : List ℕ → List ℕ
cmd_line value = tidied (spread value)

-- what is still to come, where a space is read already or not
abbrev pub to_come : Bool → List ℕ → List ℕ
to_come true rest = tidied (SPACE ∷ spread rest)
to_come false rest = tidied (spread rest)
