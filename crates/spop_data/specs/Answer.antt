-- What the answer of a reader says of the bytes.
use Rattle.std.specs.Prelude.{◌≡◌, ℕ, ◌≤◌, List, length, take, Option, Some, None, Result, Ok, Err}
use Rattle.spop_data.specs.declared.value.DataFault as faults
use Rattle.spop_data.specs.declared.value.DataFault.TheVariants as fault

-- the bytes begin no value; `NoMemory` says nothing of them
abbrev pub Refuses : {Y : Type 0} → faults.DataFault → Option Y → Type 0
Refuses fault.Invalid read = read ≡ None
Refuses fault.NoMemory read = Unit {0}

-- the call answers what reading gives, or that memory ran out
abbrev pub Gives : {X Y : Type 0} → (X → Y) → Result X faults.DataFault → Option Y → Type 0
Gives view (Ok x) read = read ≡ Some (view x)
Gives view (Err e) read = Refuses e read

-- the prefix of that length spells the value
pub record IsPrefix {A : Type 0} (R : List ℕ → A → Type 0) (bytes : List ℕ) (x : A) (used : ℕ) : Type 0 where
  pub within : used ≤ length bytes
  pub spelled : R (take used bytes) x

-- no prefix of the bytes spells a value
abbrev pub IsInvalid : {A : Type 0} → (List ℕ → A → Type 0) → List ℕ → Type 0
IsInvalid {A} R bytes = (used : ℕ) (x : A) → R (take used bytes) x → ⊥
