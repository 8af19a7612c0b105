-- What was read without a fault.
use Rattle.std.specs.Prelude.{◌≡◌, ℕ, List, [], ◌∷◌, Ok}
use Rattle.sec_text.specs.declared.line.Line.{Line}
use Rattle.sec_read.specs.declared.reading.Reading.{Reading}
use Rattle.sec_read.specs.FileWords.{Named}
use Rattle.sec_read.specs.Listing.{Opener, handed_in, line_step}

-- these lines are read one after the other without a fault, from start to end
abbrev pub Reaches : Named → Opener → List ℕ → Reading → List Line → Reading → Type 0
Reaches files opener file start [] end = start ≡ end
Reaches files opener file start (line ∷ lines) end =
    (mid : Reading) × (line_step files opener file line start ≡ Ok mid) × Reaches files opener file mid lines end

-- and these handed-in files
abbrev pub ReachesFiles : Named → Reading → List (List ℕ) → Reading → Type 0
ReachesFiles files start [] end = start ≡ end
ReachesFiles files start (name ∷ names) end =
    (mid : Reading) × (handed_in files name start ≡ Ok mid) × ReachesFiles files mid names end
