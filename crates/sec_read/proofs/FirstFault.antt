-- A fault is the first one: what stands before it was read, and what follows does not matter.
use Rattle.std.proofs.Common.{◌≡◌, List, [], ◌∷◌, ◌++◌, Err, ap, ◌∙◌, ℕ}
use Rattle.sec_text.specs.declared.line.Line.{Line}
use Rattle.sec_parts.specs.Results.{◌>>=◌}
use Rattle.sec_read.specs.declared.faults.Found.{Found}
use Rattle.sec_read.specs.declared.reading.Reading.{Reading}
use Rattle.sec_read.specs.FileWords.{Named}
use Rattle.sec_read.specs.Listing.{Opener, all_handed_in, handed_in, line_step, lines_from}
use Rattle.sec_read.specs.Reached.{Reaches, ReachesFiles}

pub first_fault : (files : Named) (opener : Opener) (file : List ℕ) (before : List Line) (line : Line) (after : List Line) (start mid : Reading) (fault : Found)
    → Reaches files opener file start before mid → line_step files opener file line mid ≡ Err fault → lines_from files opener file (before ++ line ∷ after) start ≡ Err fault
first_fault files opener file [] line after start mid fault reached step =
    ap (λ r. r >>= lines_from files opener file after) (ap (line_step files opener file line) reached ∙ step)
first_fault files opener file (first ∷ before) line after start mid fault reached step =
    ap (λ r. r >>= lines_from files opener file (before ++ line ∷ after)) reached.1 ∙ first_fault files opener file before line after reached.0 mid fault reached.2 step

pub first_faulty_file : (files : Named) (before : List (List ℕ)) (name : List ℕ) (after : List (List ℕ)) (start mid : Reading) (fault : Found)
    → ReachesFiles files start before mid → handed_in files name mid ≡ Err fault → all_handed_in files (before ++ name ∷ after) start ≡ Err fault
first_faulty_file files [] name after start mid fault reached step =
    ap (λ r. r >>= all_handed_in files after) (ap (handed_in files name) reached ∙ step)
first_faulty_file files (first ∷ before) name after start mid fault reached step =
    ap (λ r. r >>= all_handed_in files (before ++ name ∷ after)) reached.1 ∙ first_faulty_file files before name after reached.0 mid fault reached.2 step
