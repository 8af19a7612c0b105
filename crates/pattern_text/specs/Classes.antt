-- The tokens inside a class.
use Rattle.std.specs.Prelude.{ℕ, ◌+◌, Bool, not, ◌&&◌, nat_eq, List, [], ◌∷◌, ◌++◌, drop, codes, length, Option, Some, None, if◌then◌else◌}
use Rattle.std.specs.List.{list_any, take_while}
use Rattle.std.specs.Option.{option_map}
use lib.Pointwise.{pointwise}
use Rattle.pattern_text.specs.Texts.{begins, begins_among, byte_text, is_among}
use Rattle.pattern_text.specs.Escapes.{escaped}
use Rattle.pattern_text.specs.Words.{Word, kept, as_byte, set_text}
use Rattle.pattern_text.specs.declared.characters.TheConstants.{BACKSPACE}
use Rattle.pattern_text.specs.declared.place.Place.TheVariants.{Inside}
use Rattle.pattern_text.specs.declared.place.Set.TheVariants.{Blanks, VerticalSpaces}

-- the names of POSIX classes
abbrev pub class_names : List (List ℕ)
class_names =
    codes "alnum" ∷ codes "alpha" ∷ codes "ascii" ∷ codes "blank" ∷ codes "cntrl" ∷ codes "digit" ∷ codes "graph"
    ∷ codes "lower" ∷ codes "print" ∷ codes "punct" ∷ codes "space" ∷ codes "upper" ∷ codes "word" ∷ codes "xdigit" ∷ []

abbrev pub is_class_name : List ℕ → Bool
is_class_name name = list_any (pointwise nat_eq name) class_names

abbrev pub opening_length : List ℕ → ℕ
opening_length text = if begins "[:^" text then 3 else 2

-- what stands between `[:` or `[:^` and the next `:` or `]`
abbrev pub posix_name : List ℕ → List ℕ
posix_name text = take_while (λ c. not (is_among ":]" c)) (drop (opening_length text) text)

abbrev pub posix_end : List ℕ → ℕ
posix_end text = opening_length text + length (posix_name text)

-- `[:name:]` or `[:^name:]` begins here
abbrev pub begins_posix : List ℕ → Bool
begins_posix text = begins "[:" text && begins ":]" (drop (posix_end text) text)

-- one that PCRE has no name for is not supported
abbrev pub posix : List ℕ → Option Word
posix text = if is_class_name (posix_name text) then kept Inside (posix_end text + 2) text else None

-- a byte, and how many bytes of the pattern write it; in a class `\b` is a backspace
abbrev pub plain : List ℕ → Option (ℕ × ℕ)
plain [] = None
plain (c ∷ text) = Some (c, 1)

unfoldable pub single : List ℕ → Option (ℕ × ℕ)
single text =
    if begins "\\b" text then Some (BACKSPACE, 2)
    else if begins "\\" text then option_map (λ e. (e.0, 1 + e.1)) (escaped (drop 1 text))
    else plain text

-- the last byte of a range; a hyphen before `]` or before a set makes none
unfoldable pub range_end : List ℕ → Option (ℕ × ℕ)
range_end text = if begins "-" text && not (begins "-]" text) then single (drop 1 text) else None

abbrev pub range_or_byte : ℕ × ℕ → Option (ℕ × ℕ) → Word
range_or_byte low None = as_byte Inside low.1 low.0
range_or_byte low (Some high) = record {
  text = byte_text low.0 ++ codes "-" ++ byte_text high.0;
  takes = low.1 + 1 + high.1;
  next = Inside;
}

unfoldable pub member : List ℕ → Option Word
member text = option_map (λ low. range_or_byte low (range_end (drop low.1 text))) (single text)

-- a token that does not close the class
unfoldable pub in_class : List ℕ → Option Word
in_class text =
    if begins_posix text then posix text
    else if begins "\\" text && begins_among "dDwWsS" (drop 1 text) then kept Inside 2 text
    else if begins "\\h" text then Some (record { text = set_text Blanks; takes = 2; next = Inside })
    else if begins "\\v" text then Some (record { text = set_text VerticalSpaces; takes = 2; next = Inside })
    else member text
