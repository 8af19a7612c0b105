-- Printed lines.
use Rattle.std.specs.Prelude.{ℕ, Bool, true, false, not, ◌&&◌, List, [], ◌∷◌, ◌++◌}
use Rattle.std.specs.Char.{is_ascii}
use Rattle.std.specs.List.{flat_map}
use Rattle.sec_ast.specs.PrintTexts.{spread}
use Rattle.sec_text.specs.Lines.{is_line_feed}
use Rattle.sec_text.specs.Quotes.{is_blank}
use Rattle.sec_text.specs.Words.{is_plain}

-- a character of ASCII but the line feed
abbrev pub is_printed : ℕ → Bool
is_printed b = is_ascii b && not (is_line_feed b)

abbrev pub has_no_blank : List ℕ → Bool
has_no_blank [] = true
has_no_blank (b ∷ text) = not (is_blank b) && has_no_blank text

-- a plain word of at least one byte
abbrev pub is_name : List ℕ → Bool
is_name [] = false
is_name (b ∷ name) = has_no_blank (b ∷ name) && is_plain (b ∷ name)

-- a directive's line without its end
abbrev pub written : List ℕ → List (List ℕ) → List ℕ
written name words = name ++ flat_map spread words
