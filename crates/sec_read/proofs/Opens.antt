-- Where a reading opens files, step by step.
use Rattle.std.proofs.Common.{◌≡◌, ℕ, zero, suc, ◌-◌, ◌<◌, false, inl, inr, List, Option, Some, None, Result, Ok, Err, sym, subst, arith}
use Rattle.std.specs.Prelude.{IfErr, IfSome}
use Rattle.sec_text.specs.declared.line.Line.{Line}
use Rattle.sec_read.specs.declared.faults.Halt.{Halt}
use Rattle.sec_read.specs.declared.faults.Halt.TheVariants as halts
use Rattle.sec_read.specs.declared.faults.Spot.{Spot}
use Rattle.sec_read.specs.declared.reading.Reading.{Reading}
use Rattle.sec_read.specs.FileWords.{Named}
use Rattle.sec_read.specs.Listing.{opened, opened_text}
use Rattle.sec_read.specs.Names.{beside, has_wildcard}
use Rattle.sec_read.specs.Places.{After, IncludeOpens, LinesOpen}
use Rattle.sec_read.specs.Results.{IsSpot, WhereUnread}

-- ---- errors

pub where_as : (e : Halt) (P Q : Spot → Type 0) → ((spot : Spot) → P spot → Q spot) → WhereUnread e P → WhereUnread e Q
where_as halts.NoMemory P Q f h = tt
where_as (halts.Unread spot) P Q f h = f spot h
where_as (halts.Fault found) P Q f h = tt

-- ---- where files are told

module _ (e : Halt) where
  -- an error whatever is told
  pub all_told : (told : Option Named) (P : Spot → Type 0) (Q : Named → Spot → Type 0) → ((files : Named) (spot : Spot) → P spot → Q files spot)
      → WhereUnread e P → IfSome told (λ files. WhereUnread e (Q files))
  all_told None P Q f h = tt
  all_told (Some files) P Q f h = where_as e P (Q files) (f files) h

-- after a step that is told
pub told_after : {X : Type 0} (r : Result X Halt) (told later : Option Named) (Step : Named → Type 0) (P Q : Named → Spot → Type 0) → later ≡ told → ((files : Named) (spot : Spot) → Step files → P files spot → Q files spot)
    → IfSome told Step → IfSome later (λ files. IfErr r (λ e. WhereUnread e (P files))) → IfSome told (λ files. IfErr r (λ e. WhereUnread e (Q files)))
told_after r None later Step P Q same f first then = tt
told_after (Ok x) (Some files) later Step P Q same f first then = tt
told_after (Err e) (Some files) later Step P Q same f first then =
    where_as e (P files) (Q files) (λ spot. f files spot first) (subst (λ (o : Option Named). IfSome o (λ files. WhereUnread e (P files))) same then)

-- ---- one Include

module _ (files : Named) (depth : ℕ) (file : List ℕ) (line : ℕ) (word : List ℕ) (reading : Reading) (lt : 0 < depth) (calm : false ≡ has_wildcard word) (spot : Spot) where
  pub include_names : IsSpot file line (Some word) spot → IncludeOpens files depth file line word reading spot
  include_names = at depth lt
    where
      at : (n : ℕ) → 0 < n → IsSpot file line (Some word) spot → IncludeOpens files n file line word reading spot
      at zero some is = absurd (omega arith)
      at (suc n) some is = (sym calm, inl is)

  pub include_opens : (name : List ℕ) (lines given : List Line) (next : Reading) → name ≡ beside file word → given ≡ lines → opened_text file line word name (files name) reading ≡ Ok (lines, next)
      → LinesOpen files (opened files (depth - 1)) (IncludeOpens files (depth - 1)) name given next spot → IncludeOpens files depth file line word reading spot
  include_opens name lines given next named all read is = at depth lt is
    where
      at : (n : ℕ) → 0 < n → LinesOpen files (opened files (n - 1)) (IncludeOpens files (n - 1)) name given next spot → IncludeOpens files n file line word reading spot
      at zero some is = absurd (omega arith)
      at (suc n) some is =
          let one : suc n - 1 ≡ n = omega arith in
          let here : LinesOpen files (opened files n) (IncludeOpens files n) name given next spot = rw one at is in
          let all_lines = subst (λ (l : List Line). LinesOpen files (opened files n) (IncludeOpens files n) name l next spot) all here in
          let read_all : After (opened_text file line word name (files name) reading) (λ found. LinesOpen files (opened files n) (IncludeOpens files n) name found.0 found.1 spot) = rw read all_lines in
          (sym calm, inr (subst (λ (m : List ℕ). After (opened_text file line word m (files m) reading) (λ found. LinesOpen files (opened files n) (IncludeOpens files n) m found.0 found.1 spot)) named read_all))
