-- Readers that are used again and again on what they left.
use Rattle.std.specs.Prelude.{◌≡◌, ℕ, zero, suc, List, [], ◌∷◌, Option, Some, None, Result, Ok, Err}

-- A reader takes one value from the front: it answers the value and what is left, None at the end, or a fault.
abbrev pub Reader : Type 0 → Type 0 → Type 0 → Type 0
Reader S A E = S → Result (Option (A × S)) E

-- one after the other it gives these values, and leaves rest
abbrev pub Takes : {S A E : Type 0} → Reader S A E → S → List A → S → Type 0
Takes reader whole [] rest = whole ≡ rest
Takes {S} reader whole (value ∷ values) rest =
    (mid : S) × (reader whole ≡ Ok (Some (value, mid))) × Takes reader mid values rest

-- it gives these values and comes to the end, or some values and then this fault
abbrev pub ReadsAll : {S A E : Type 0} → Reader S A E → S → Result (List A) E → Type 0
ReadsAll {S} reader whole (Ok values) = (rest : S) × Takes reader whole values rest × (reader rest ≡ Ok None)
ReadsAll {S} {A} reader whole (Err fault) =
    (values : List A) × (rest : S) × Takes reader whole values rest × (reader rest ≡ Err fault)

-- ---- the same as a function, for at most n values

abbrev pub onto : {A E : Type 0} → A → Result (List A) E → Result (List A) E
onto value (Ok values) = Ok (value ∷ values)
onto value (Err fault) = Err fault

abbrev pub then : {S A E : Type 0} → (S → Result (List A) E) → Result (Option (A × S)) E → Result (List A) E
then more (Ok None) = Ok []
then more (Ok (Some x)) = onto x.0 (more x.1)
then more (Err fault) = Err fault

abbrev pub repeat : {S A E : Type 0} → Reader S A E → ℕ → S → Result (List A) E
repeat reader zero whole = Ok []
repeat reader (suc n) whole = then (repeat reader n) (reader whole)
