-- What a call answers, against what reading gives: a value or the first fault, unless memory ran out.
use Rattle.std.specs.Prelude.{◌≡◌, ℕ, Bool, true, false, List, Option, Some, Result, Ok, Err}
use Rattle.sec_read.specs.declared.faults.Cause.{Cause}
use Rattle.sec_read.specs.declared.faults.Found.{Found}
use Rattle.sec_read.specs.declared.faults.Halt.{Halt}
use Rattle.sec_read.specs.declared.faults.Spot.{Spot}
use Rattle.sec_read.specs.declared.faults.Halt.TheVariants as halts

-- ---- calls that read no file

abbrev pub Halts : {Y : Type 0} → Halt → Result Y Found → Type 0
Halts halts.NoMemory read = Unit {0}
Halts (halts.Unread spot) read = ⊥
Halts (halts.Fault found) read = read ≡ Err found

abbrev pub Answers : {X Y : Type 0} → (X → Y) → Result X Halt → Result Y Found → Type 0
Answers view (Ok x) read = read ≡ Ok (view x)
Answers view (Err e) read = Halts e read

-- this fault, or no memory
abbrev pub IsFault : Halt → List ℕ → ℕ → Cause → List ℕ → Type 0
IsFault halts.NoMemory file line cause word = Unit {0}
IsFault (halts.Unread spot) file line cause word = ⊥
IsFault (halts.Fault found) file line cause word =
    found ≡ record { file = file; line = line; cause = cause; word = word }

-- ---- calls that read files, where their content is told; a read that failed owes nothing here

abbrev pub Stops : {Y : Type 0} → Halt → Result Y Found → Type 0
Stops halts.NoMemory read = Unit {0}
Stops (halts.Unread spot) read = Unit {0}
Stops (halts.Fault found) read = read ≡ Err found

abbrev pub Tells : {X Y : Type 0} → (X → Y) → Result X Halt → Result Y Found → Type 0
Tells view (Ok x) read = read ≡ Ok (view x)
Tells view (Err e) read = Stops e read

-- a read that failed
abbrev pub is_unread : Halt → Bool
is_unread halts.NoMemory = false
is_unread (halts.Unread spot) = true
is_unread (halts.Fault found) = false

-- a read that failed, of the file that a directive in this file and line names by a word, or no memory
abbrev pub IsUnreadAt : Halt → List ℕ → ℕ → List ℕ → Type 0
IsUnreadAt halts.NoMemory file line word = Unit {0}
IsUnreadAt (halts.Unread spot) file line word = spot ≡ record { file = file; line = line; word = word }
IsUnreadAt (halts.Fault found) file line word = ⊥

-- where a read failed, this holds of its place
abbrev pub WhereUnread : Halt → (Spot → Type 0) → Type 0
WhereUnread halts.NoMemory holds = Unit {0}
WhereUnread (halts.Unread spot) holds = holds spot
WhereUnread (halts.Fault found) holds = Unit {0}

-- the place of a file that a directive in this file and line names by this word, if it names one
abbrev pub IsSpot : List ℕ → ℕ → Option (List ℕ) → Spot → Type 0
IsSpot file line named spot = (named ≡ Some spot.word) × (spot.file ≡ file) × (spot.line ≡ line)
