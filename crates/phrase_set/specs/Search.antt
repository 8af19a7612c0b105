-- What the parts of a set search for.
use Rattle.std.specs.Prelude.{ℕ, ◌<◌, ⊤, List, length, get_or, []}
use Rattle.phrase_set.specs.declared.part.Part as parts
use Rattle.phrase_set.specs.declared.part.Part.TheVariants.{Each, Joint}

-- the phrases of a part
abbrev pub phrases_of : parts.Part → List (List ℕ)
phrases_of (Each phrases) = phrases
phrases_of (Joint needles) = needles

-- no phrase is empty
abbrev pub NoneEmpty : List (List ℕ) → Type 0
NoneEmpty phrases = (n : ℕ) → n < length phrases → 0 < length (get_or phrases n [])

-- phrases that are searched for in one pass are not empty
abbrev pub IsSound : parts.Part → Type 0
IsSound (Each phrases) = ⊤
IsSound (Joint needles) = NoneEmpty needles
