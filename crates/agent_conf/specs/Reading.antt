-- What reading a part of a document answers.
use Rattle.std.specs.Prelude.{◌≡◌, ℕ, List, [], ◌∷◌, Bool, true, false, Option, Some, None, Result, Ok, Err}
use Rattle.agent_conf.specs.declared.fault.ConfFault.{ConfFault}
use Rattle.agent_conf.specs.declared.fault.ConfFault.TheVariants as faults

abbrev pub first : {A : Type 0} → List A → Option A
first [] = None
first (a ∷ rest) = Some a

-- the key, unless its value is good
abbrev pub unless : Bool → List ℕ → List (List ℕ)
unless true key = []
unless false key = key ∷ []

-- the value where no key has a bad one, and else the first key that has; want of memory says nothing
abbrev pub Gives : {A : Type 0} → Result A ConfFault → List (List ℕ) → A → Type 0
Gives (Ok value) bad wanted = (bad ≡ []) × (value ≡ wanted)
Gives (Err (faults.BadValue key)) bad wanted = first bad ≡ Some key
Gives (Err faults.NoMemory) bad wanted = Unit {0}
Gives (Err other) bad wanted = ⊥

-- the same of one key, whose value is none where it is bad
abbrev pub Reads : {A : Type 0} → Result A ConfFault → Option A → List ℕ → Type 0
Reads (Ok value) wanted key = wanted ≡ Some value
Reads (Err (faults.BadValue word)) wanted key = (wanted ≡ None) × (word ≡ key)
Reads (Err faults.NoMemory) wanted key = Unit {0}
Reads (Err other) wanted key = ⊥

-- no fault, or the first; want of memory says nothing
abbrev pub IsFirst : Result (Unit {0}) ConfFault → List ConfFault → Type 0
IsFirst (Ok nothing) found = found ≡ []
IsFirst (Err faults.NoMemory) found = Unit {0}
IsFirst (Err fault) found = first found ≡ Some fault
