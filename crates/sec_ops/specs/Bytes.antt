-- Texts of bytes.
use Rattle.std.specs.Prelude.{ℕ, ◌<◌, List, get_or}

-- each byte is below 256
abbrev pub IsBytes : List ℕ → Type 0
IsBytes value = (k : ℕ) → get_or value k 0 < 256
