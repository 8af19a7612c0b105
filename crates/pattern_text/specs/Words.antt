-- What a token is worded as.
use Rattle.std.specs.Prelude.{ℕ, List, ◌++◌, take, codes, Option, Some}
use Rattle.pattern_text.specs.Texts.{byte_text}
use Rattle.pattern_text.specs.declared.place.Place.{Place}
use Rattle.pattern_text.specs.declared.place.Set.{Set}
use Rattle.pattern_text.specs.declared.place.Set.TheVariants.{Blanks, VerticalSpaces}

-- the wording, how many bytes of the pattern it is for, and where the next token stands
pub record Word : Type 0 where
  pub text : List ℕ
  pub takes : ℕ
  pub next : Place

-- the first bytes of the pattern stay as they are
abbrev pub kept : Place → ℕ → List ℕ → Option Word
kept next takes pattern = Some (record { text = take takes pattern; takes = takes; next = next })

abbrev pub as_byte : Place → ℕ → ℕ → Word
as_byte next takes b = record { text = byte_text b; takes = takes; next = next }

-- `\h` and `\v`, as they are written in a class
abbrev pub set_text : Set → List ℕ
set_text Blanks = codes "\\x09\\x20"
set_text VerticalSpaces = codes "\\x0A-\\x0D\\x85"

-- and outside of classes
abbrev pub class_text : Set → List ℕ
class_text set = codes "[" ++ set_text set ++ codes "]"

-- `\R`
abbrev pub line_end : List ℕ
line_end = codes "(?:\\x0D\\x0A|" ++ class_text VerticalSpaces ++ codes ")"
