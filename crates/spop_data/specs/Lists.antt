-- Items that stand one after the other: what the bytes spell, and how they are read.
use Rattle.std.specs.Prelude.{◌≡◌, ℕ, zero, suc, List, [], ◌∷◌, ◌++◌, length, Option, Some, None}
use Rattle.spop_varint.specs.Reading.{◌>>=◌}

-- the items' spellings one after the other, and nothing else
abbrev pub SpellsEach : {A : Type 0} → (List ℕ → A → Type 0) → List ℕ → List A → Type 0
SpellsEach R bytes [] = bytes ≡ []
SpellsEach R bytes (x ∷ xs) =
    (one : List ℕ) × (rest : List ℕ) × R one x × SpellsEach R rest xs × (bytes ≡ one ++ rest)

-- so many items and the bytes after them, where `one` reads an item and the bytes after it
abbrev pub several_at : {A : Type 0} → (List ℕ → Option (A × List ℕ)) → ℕ → List ℕ → Option (List A × List ℕ)
several_at one zero bytes = Some ([], bytes)
several_at one (suc count) bytes = do
  x ← one bytes
  xs ← several_at one count x.1
  Some (x.0 ∷ xs.0, xs.1)

-- at most so many items, up to the end of the bytes
abbrev pub up_to : {A : Type 0} → (List ℕ → Option (A × List ℕ)) → ℕ → List ℕ → Option (List A)
up_to one most [] = Some []
up_to one zero (b ∷ bytes) = None
up_to one (suc most) (b ∷ bytes) = do
  x ← one (b ∷ bytes)
  xs ← up_to one most x.1
  Some (x.0 ∷ xs)

-- all items; each has a byte at least, so there are no more of them than bytes
abbrev pub all_of : {A : Type 0} → (List ℕ → Option (A × List ℕ)) → List ℕ → Option (List A)
all_of one bytes = up_to one (length bytes) bytes
