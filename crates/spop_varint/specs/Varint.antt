-- How SPOP spells a number below 2 ^ 64 (SPOE.txt, 3.1).
use Rattle.std.specs.Prelude.{◌≡◌, ℕ, ◌+◌, ◌*◌, ◌^◌, ◌<◌, ◌≤◌, List, [], ◌∷◌, ◌++◌, length, take}
use Rattle.spop_varint.specs.declared.read.Varint as answers
use Rattle.spop_varint.specs.declared.read.Varint.TheVariants.{Read, Short, TooLarge}

-- the sum of the bytes, the first times 2 ^ e and each further one times 2 ^ 7 more
abbrev pub weighed : ℕ → List ℕ → ℕ
weighed e [] = 0
weighed e (b ∷ bs) = b * 2 ^ e + weighed (e + 7) bs

-- bytes of 128 and more, and last one below 128
abbrev pub IsTail : List ℕ → Type 0
IsTail [] = ⊥
IsTail (b ∷ []) = b < 128
IsTail (b ∷ c ∷ bs) = (128 ≤ b) × (b < 256) × IsTail (c ∷ bs)

-- One byte below 240 stands for itself. A first byte of 240 or more and a tail stand for their sum.
abbrev pub Spells : List ℕ → ℕ → Type 0
Spells [] v = ⊥
Spells (a ∷ []) v = (a < 240) × (v ≡ a)
Spells (a ∷ b ∷ bs) v = (240 ≤ a) × (a < 256) × IsTail (b ∷ bs) × (v ≡ a + weighed 4 (b ∷ bs)) × (v < 2 ^ 64)

-- a proper prefix of some spelling
abbrev pub IsShort : List ℕ → Type 0
IsShort bytes = (more : List ℕ) × (v : ℕ) × (0 < length more) × Spells (bytes ++ more) v

-- no prefix of the bytes is a spelling, and they are no prefix of one
pub record IsTooLarge (bytes : List ℕ) : Type 0 where
  pub prefix : (n v : ℕ) → Spells (take n bytes) v → ⊥
  pub onward : (more : List ℕ) (v : ℕ) → Spells (bytes ++ more) v → ⊥

-- the prefix that was read spells the value
abbrev pub IsRead : List ℕ → answers.Varint → Type 0
IsRead bytes (Read v used) = (used ≤ length bytes) × Spells (take used bytes) v
IsRead bytes Short = Unit {0}
IsRead bytes TooLarge = Unit {0}

-- new is old with a spelling of the value at its end
abbrev pub AppendsVarint : List ℕ → List ℕ → ℕ → Type 0
AppendsVarint old new v = (bytes : List ℕ) × Spells bytes v × (new ≡ old ++ bytes)
