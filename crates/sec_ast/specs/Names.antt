-- Names without regard to the case of ASCII letters.
use Rattle.std.specs.Prelude.{ℕ, Bool, List}
use Rattle.std.specs.List.{list_any}
use Rattle.std.specs.Str.{str_eq_ignore_ascii_case}

-- a word is one of these names
abbrev pub is_one_of : List (List ℕ) → List ℕ → Bool
is_one_of names word = list_any (λ name. str_eq_ignore_ascii_case name word) names
