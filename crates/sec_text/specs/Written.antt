-- Words as they are written.
use Rattle.std.specs.Prelude.{ℕ, ◌==◌, Bool, false, List, [], ◌∷◌, ◌++◌, if◌then◌else◌}
use Rattle.sec_text.specs.declared.characters.TheConstants.{BACKSLASH, QUOTE, SPACE}

-- with \ before each quote
abbrev pub escaped : ℕ → List ℕ → List ℕ
escaped quote [] = []
escaped quote (b ∷ rest) = if b == quote then BACKSLASH ∷ quote ∷ escaped quote rest else b ∷ escaped quote rest

abbrev pub in_quotes : ℕ → List ℕ → List ℕ
in_quotes quote word = quote ∷ escaped quote word ++ quote ∷ []

-- what can be written: no word ends with \
abbrev pub ends_with_backslash : List ℕ → Bool
ends_with_backslash [] = false
ends_with_backslash (b ∷ []) = b == BACKSLASH
ends_with_backslash (b ∷ c ∷ rest) = ends_with_backslash (c ∷ rest)

-- words in quotes, a blank before each
abbrev pub spread : List (List ℕ) → List ℕ
spread [] = []
spread (word ∷ words) = SPACE ∷ in_quotes QUOTE word ++ spread words
