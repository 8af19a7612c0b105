-- What holds of each value that a reader gives.
use Rattle.std.proofs.Common.{◌≡◌, ℕ, zero, suc, Bool, true, false, cond, List, [], ◌∷◌, ◌++◌, Option, Some, None, Result, Ok, Err, refl, subst}
use Rattle.std.specs.List.{AllByRecursion}
use Rattle.sec_text.specs.Readers.{Reader, onto, repeat, then}
use Rattle.sec_parts.specs.Results.{◌>>=◌}

abbrev pub Given : {A E : Type 0} → (A → Type 0) → Result A E → Type 0
Given P (Ok x) = P x
Given P (Err e) = Unit {0}

pub given_at : {A E : Type 0} (P : A → Type 0) (r : Result A E) (x : A) → Given P r → r ≡ Ok x → P x
given_at P r x h is = subst (Given P) is h

pub given_bind : {A B E : Type 0} (P : A → Type 0) (Q : B → Type 0) (r : Result A E) (f : A → Result B E) → Given P r → ((x : A) → P x → Given Q (f x)) → Given Q (r >>= f)
given_bind P Q (Ok x) f h more = more x h
given_bind P Q (Err e) f h more = tt

pub given_if : {A E : Type 0} (P : A → Type 0) (b : Bool) (x y : Result A E) → (b ≡ true → Given P x) → (b ≡ false → Given P y) → Given P (cond b x y)
given_if P true x y yes_it no_it = yes_it refl
given_if P false x y yes_it no_it = no_it refl

-- ---- readers that are used again and again

-- what holds of a value and of what is left
abbrev pub GivesNext : {S A E : Type 0} → (A → Type 0) → (S → Type 0) → Result (Option (A × S)) E → Type 0
GivesNext P Q (Ok None) = Unit {0}
GivesNext P Q (Ok (Some x)) = P x.0 × Q x.1
GivesNext P Q (Err e) = Unit {0}

module _ {S A E : Type 0} (P : A → Type 0) (Q : S → Type 0) (reader : Reader S A E) (each : (s : S) → Q s → GivesNext P Q (reader s)) where
  given_onto : (value : A) → P value → (r : Result (List A) E) → Given (AllByRecursion P) r → Given (AllByRecursion P) (onto value r)
  given_onto value is (Ok values) h = (is, h)
  given_onto value is (Err e) h = tt

  pub given_then : (more : S → Result (List A) E) → ((s : S) → Q s → Given (AllByRecursion P) (more s)) → (r : Result (Option (A × S)) E) → GivesNext P Q r → Given (AllByRecursion P) (then more r)
  given_then more all (Ok None) h = tt
  given_then more all (Ok (Some x)) h = given_onto x.0 h.0 (more x.1) (all x.1 h.1)
  given_then more all (Err e) h = tt

  pub given_all : (n : ℕ) (s : S) → Q s → Given (AllByRecursion P) (repeat reader n s)
  given_all zero s q = tt
  given_all (suc n) s q = given_then (repeat reader n) (given_all n) (reader s) (each s q)

-- what holds of a value that is there
abbrev pub GivesSome : {S A E : Type 0} → (A → Type 0) → (S → Type 0) → Result (Option (A × S)) E → Type 0
GivesSome P Q (Ok None) = ⊥
GivesSome P Q (Ok (Some x)) = P x.0 × Q x.1
GivesSome P Q (Err e) = Unit {0}

-- some values, of each of which this holds
abbrev pub SomeAll : {A : Type 0} → (A → Type 0) → List A → Type 0
SomeAll P [] = ⊥
SomeAll P (x ∷ xs) = P x × AllByRecursion P xs

module _ {S A E : Type 0} (P : A → Type 0) (Q : S → Type 0) where
  first_onto : (value : A) → P value → (r : Result (List A) E) → Given (AllByRecursion P) r → Given (SomeAll P) (onto value r)
  first_onto value is (Ok values) h = (is, h)
  first_onto value is (Err e) h = tt

  pub given_first : (more : S → Result (List A) E) → ((s : S) → Q s → Given (AllByRecursion P) (more s)) → (r : Result (Option (A × S)) E) → GivesSome P Q r → Given (SomeAll P) («then» more r)
  given_first more all (Ok None) h = absurd h
  given_first more all (Ok (Some x)) h = first_onto x.0 h.0 (more x.1) (all x.1 h.1)
  given_first more all (Err e) h = tt

pub given_from : {A E : Type 0} (P : A → Type 0) (r : Result A E) → ((x : A) → r ≡ Ok x → P x) → Given P r
given_from P (Ok x) f = f x refl
given_from P (Err e) f = tt

-- ---- one value more

pub all_push : {X : Type 0} (P : X → Type 0) (xs : List X) (x : X) → AllByRecursion P xs → P x → AllByRecursion P (xs ++ x ∷ [])
all_push P [] x all is = (is, tt)
all_push P (y ∷ xs) x all is = (all.0, all_push P xs x all.1 is)
