-- Texts as they are written: escapes, quotes and words.
use Rattle.std.specs.Prelude.{ℕ, ◌==◌, List, [], ◌∷◌, ◌++◌, codes, if◌then◌else◌}
use Rattle.std.specs.List.{flat_map}
use Rattle.sec_text.specs.declared.characters.TheConstants.{BACKSLASH, QUOTE, SPACE}

-- a byte, with \ before it where it is the quote
abbrev pub marked : ℕ → ℕ → List ℕ
marked quote b = if b == quote then BACKSLASH ∷ b ∷ [] else b ∷ []

abbrev pub escaped : ℕ → List ℕ → List ℕ
escaped quote text = flat_map (marked quote) text

abbrev pub in_quotes : ℕ → List ℕ → List ℕ
in_quotes quote text = quote ∷ escaped quote text ++ quote ∷ []

-- a blank and the word in quotes
abbrev pub spread : List ℕ → List ℕ
spread word = SPACE ∷ in_quotes QUOTE word

-- a directive's name, its words, and the line's end
unfoldable pub line_of : List ℕ → List (List ℕ) → List ℕ
line_of name words = name ++ flat_map spread words ++ codes "\n"
