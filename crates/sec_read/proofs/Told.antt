-- One step after another, where files are told.
use Rattle.std.proofs.Common.{◌≡◌, Option, Some, None, Result, Ok, sym, ap, subst}
use Rattle.std.specs.Prelude.{IfSome}
use Rattle.sec_parts.specs.Results.{◌>>=◌}
use Rattle.sec_read.specs.declared.faults.Found.{Found}
use Rattle.sec_read.specs.declared.faults.Halt.{Halt}
use Rattle.sec_read.specs.declared.faults.Halt.TheVariants as halts
use Rattle.sec_read.specs.FileWords.{Named}
use Rattle.sec_read.specs.Results.{Halts, Stops, Tells}

pub stops_bind : {A B : Type 0} (e : Halt) (r : Result A Found) (f : A → Result B Found) → Stops e r → Stops e (r >>= f)
stops_bind halts.NoMemory r f h = tt
stops_bind (halts.Unread spot) r f h = tt
stops_bind (halts.Fault found) r f h = ap (λ x. x >>= f) h

pub halts_stops : {A : Type 0} (e : Halt) (r : Result A Found) → Halts e r → Stops e r
halts_stops halts.NoMemory r h = tt
halts_stops (halts.Unread spot) r h = tt
halts_stops (halts.Fault found) r h = h

module _ {A B X : Type 0} (view : X → B) (read : Named → Result A Found) (x : A) (f : Named → A → Result B Found) (r : Result X Halt) where
  -- the first step gave x, and the second, which reads no file, tells of f
  pub told_always : (told : Option Named) → IfSome told (λ files. read files ≡ Ok x)
      → ((files : Named) → Tells view r (f files x)) → IfSome told (λ files. Tells view r (read files >>= f files))
  told_always None first then = tt
  told_always (Some files) first then = subst (Tells view r) (sym (ap (λ a. a >>= f files) first)) (then files)
