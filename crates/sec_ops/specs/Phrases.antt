-- Texts without regard to the case of their letters.
use Rattle.std.specs.Prelude.{ℕ, List, map}
use Rattle.std.specs.Char.{to_ascii_lowercase}

-- letters in lower case
abbrev pub folded : List ℕ → List ℕ
folded text = map to_ascii_lowercase text
