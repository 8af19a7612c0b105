-- The text for the crate `regex` of a pattern as PCRE reads it: on bytes, `.` matching line ends too, `^` and `$` at them.
use Rattle.std.specs.Prelude.{ℕ, zero, suc, ◌-◌, List, [], ◌∷◌, ◌++◌, codes, Option, Some, None, option_and_then, if◌then◌else◌}
use Rattle.std.specs.Option.{option_map}
use Rattle.pattern_text.specs.Texts.{begins}
use Rattle.pattern_text.specs.Words.{Word, kept}
use Rattle.pattern_text.specs.Classes.{in_class}
use Rattle.pattern_text.specs.Outside.{outside}
use Rattle.pattern_text.specs.declared.place.Place.{Place}
use Rattle.pattern_text.specs.declared.place.Place.TheVariants.{Opened, Inside, Outside}

-- the token at the front; directly after `[` or `[^` a `]` does not close the class
abbrev pub token : Place → List ℕ → Option Word
token Outside text = outside text
token Opened text = in_class text
token Inside text = if begins "]" text then kept Outside 1 text else in_class text

-- a class that is not closed is no pattern
abbrev pub at_end : Place → Option (List ℕ)
at_end Outside = Some []
at_end Opened = None
at_end Inside = None

abbrev pub after : List ℕ → Option (List ℕ) → Option (List ℕ)
after text more = option_map (λ rest. text ++ rest) more

-- the tokens one after the other, when the first `skip` bytes are taken already
unfoldable pub worded_from : Place → ℕ → List ℕ → Option (List ℕ)
worded_from place skip [] = at_end place
worded_from place (suc skip) (b ∷ bs) = worded_from place skip bs
worded_from place zero (b ∷ bs) =
    option_and_then (λ word. after word.text (worded_from word.next (word.takes - 1) bs)) (token place (b ∷ bs))

-- read on bytes, with `.` matching line ends too, and `^` and `$` at inner line ends
abbrev pub prefix : List ℕ
prefix = codes "(?sm-u)"

-- None: not supported
unfoldable pub worded : List ℕ → Option (List ℕ)
worded pattern = after prefix (worded_from Outside 0 pattern)
