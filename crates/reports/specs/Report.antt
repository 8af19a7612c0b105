-- What a command writes, and the status that it ends with.
use Rattle.std.specs.Prelude.{◌≡◌, ◌⊎◌, ℕ, List, ◌++◌, Option, Result, Ok, Err}
use Rattle.waf_io.specs.Counts.{Rose}
use Rattle.waf_io.specs.Sink.{Adds}
use Rattle.reports.specs.declared.exit_status.TheConstants.{DONE, REFUSED, READ_FAULT, WRITE_FAULT, OUT_OF_MEMORY}

-- some prefix of the bytes was added
abbrev pub AddsPrefix : Option (List ℕ) → List ℕ → Option (List ℕ) → Type 0
AddsPrefix old bytes new = (prefix : List ℕ) × (rest : List ℕ) × (prefix ++ rest ≡ bytes) × Adds old prefix new

-- the bytes were written and that is the status, or a write failed after some prefix of them
abbrev pub Reports : ℕ → ℕ → List ℕ → Option (List ℕ) → Option (List ℕ) → Type 0
Reports result status bytes old new =
    ((result ≡ status) × Adds old bytes new) ⊎ ((result ≡ WRITE_FAULT) × AddsPrefix old bytes new)

-- a text, or the line of a fault, was reported
abbrev pub Reported : ℕ → Result (List ℕ) (List ℕ) → Option (List ℕ) → Option (List ℕ) → Type 0
Reported result (Ok text) old new = Reports result DONE text old new
Reported result (Err line) old new = Reports result REFUSED line old new

-- out of memory before anything was written
abbrev pub OutOfMemory : ℕ → Option (List ℕ) → Option (List ℕ) → Type 0
OutOfMemory result old new = (result ≡ OUT_OF_MEMORY) × (new ≡ old)

-- the bytes were reported under that status, or there was no memory
abbrev pub Says : ℕ → ℕ → List ℕ → Option (List ℕ) → Option (List ℕ) → Type 0
Says result status bytes old new = Reports result status bytes old new ⊎ OutOfMemory result old new

-- a read failed before anything was written: the count of faults of what is read rose from `before` to `now`
abbrev pub ReadFails : ℕ → ℕ → ℕ → Option (List ℕ) → Option (List ℕ) → Type 0
ReadFails result before now old new = (result ≡ READ_FAULT) × Rose before now × (new ≡ old)

-- of a file, before anything of the input was taken, of which the source had `first` left and has `left`
abbrev pub FilesFailFirst : ℕ → ℕ → ℕ → Option (List ℕ) → Option (List ℕ) → Option (List ℕ) → Option (List ℕ) → Type 0
FilesFailFirst result before now first left old new = ReadFails result before now old new × (left ≡ first)

-- the bytes were reported under that status, or nothing was written
abbrev pub Prints : ℕ → ℕ → List ℕ → ℕ → ℕ → Option (List ℕ) → Option (List ℕ) → Type 0
Prints result status bytes before now old new =
    Reports result status bytes old new ⊎ (ReadFails result before now old new ⊎ OutOfMemory result old new)

-- a text, or the line of a fault
abbrev pub Answers : ℕ → Result (List ℕ) (List ℕ) → ℕ → ℕ → Option (List ℕ) → Option (List ℕ) → Type 0
Answers result (Ok text) before now old new = Prints result DONE text before now old new
Answers result (Err line) before now old new = Prints result REFUSED line before now old new
