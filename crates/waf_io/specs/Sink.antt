-- What a write does to the bytes that are held and to the count of faults.
use Rattle.std.specs.Prelude.{◌≡◌, ℕ, ◌<◌, ◌≤◌, ◌+◌, List, ◌++◌, length, take, cond, nat_le, Option, Some, None}
use Rattle.waf_io.specs.Schedule.{Failing}
use Rattle.waf_io.specs.declared.sink.Took as took
use Rattle.waf_io.specs.declared.sink.Took.TheVariants.{Bytes, Failed}

-- what is told now was told before, but for the bytes at its end
abbrev pub Adds : Option (List ℕ) → List ℕ → Option (List ℕ) → Type 0
Adds before bytes (Some now) = (held : List ℕ) × (before ≡ Some held) × (now ≡ held ++ bytes)
Adds before bytes None = Unit {0}

abbrev pub Writes : took.Took → List ℕ → Option (List ℕ) → Option (List ℕ) → Type 0
Writes (Bytes n) piece before held = (n ≤ length piece) × (0 < length piece → 0 < n) × Adds before (take n piece) held
Writes Failed piece before held = held ≡ before

-- bytes that are held in room for so many, as long as they fit
pub record Kept : Type 0 where
  pub held : Option (List ℕ)
  pub room : ℕ

abbrev pub held_after : List ℕ → ℕ → Option (List ℕ) → Option (List ℕ)
held_after piece room None = None
held_after piece room (Some held) = cond (nat_le (length held + length piece) room) (Some (held ++ piece)) None

-- a piece that fits is held behind the others; from the first that does not, nothing is told
abbrev pub kept_after : List ℕ → Kept → Kept
kept_after piece k = record { held = held_after piece k.room k.held; room = k.room }

-- what a sink that may fail is seen as
pub record FaultyKept : Type 0 where
  pub kept : Kept
  pub schedule : Failing
