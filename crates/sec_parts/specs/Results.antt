-- What reading gives: a value, or the first fault.
use Rattle.std.specs.Prelude.{◌≡◌, ℕ, List, Result, Ok, Err}
use Rattle.sec_parts.specs.declared.faults.Bad.{Bad}
use Rattle.sec_parts.specs.declared.faults.Flaw.{Flaw}
use Rattle.sec_parts.specs.declared.faults.Flaw.TheVariants as flaws
use Rattle.sec_parts.specs.declared.faults.Refusal.{Refusal}
use Rattle.sec_parts.specs.declared.faults.Refusal.TheVariants as refusals

-- a step after another, which is taken only where that gave a value
infixl 10 ◌>>=◌
abbrev pub ◌>>=◌ : {A B E : Type 0} → Result A E → (A → Result B E) → Result B E
(Ok x) >>= f = f x
(Err e) >>= f = Err e

-- ---- faults, with the word in which they are

abbrev pub bad : {A : Type 0} → List ℕ → Result A Bad
bad word = Err (record { flaw = flaws.BadWord; word = word })

abbrev pub refused : {A : Type 0} → List ℕ → Result A Bad
refused word = Err (record { flaw = flaws.RefusedByName; word = word })

abbrev pub unclosed : {A : Type 0} → List ℕ → Result A Bad
unclosed word = Err (record { flaw = flaws.OpenQuote; word = word })

-- ---- what a call answers, seen by view, is what reading gives, unless memory ran out

abbrev pub Refuses : {Y : Type 0} → Refusal → Result Y Bad → Type 0
Refuses refusals.NoMemory read = Unit {0}
Refuses (refusals.Bad bad) read = read ≡ Err bad

abbrev pub Gives : {X Y : Type 0} → (X → Y) → Result X Refusal → Result Y Bad → Type 0
Gives view (Ok x) read = read ≡ Ok (view x)
Gives view (Err e) read = Refuses e read

-- this fault, or no memory
abbrev pub IsBad : Refusal → Flaw → List ℕ → Type 0
IsBad refusals.NoMemory flaw word = Unit {0}
IsBad (refusals.Bad bad) flaw word = bad ≡ record { flaw = flaw; word = word }
