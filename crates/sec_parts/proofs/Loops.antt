-- Loops that take value after value from what is left, until the end or a fault.
use Rattle.std.proofs.Common.{◌≡◌, ℕ, zero, suc, ◌<◌, List, [], ◌∷◌, ◌++◌, Some, None, Result, Ok, Err, refl, sym, ap, ◌∙◌, append_assoc, arith}
use Rattle.std.proofs.lemmas.List.{append-nil}
use Rattle.sec_text.specs.Readers.{Reader, onto, then, repeat}
use Rattle.sec_parts.specs.declared.faults.Bad.{Bad}
use Rattle.sec_parts.specs.declared.faults.Refusal.{Refusal}
use Rattle.sec_parts.specs.declared.faults.Refusal.TheVariants as refusals
use Rattle.sec_parts.specs.Results.{Refuses}

abbrev pub behind_values : {A : Type 0} → List A → Result (List A) Bad → Result (List A) Bad
behind_values values (Ok more) = Ok (values ++ more)
behind_values values (Err bad) = Err bad

-- the values so far, and what is left, give the whole answer
pub record Goes {S A : Type 0} (reader : Reader S A Bad) (size : S → ℕ) (rest : S) (values : List A) (total : Result (List A) Bad) : Type 0 where
  pub most : ℕ
  pub enough : size rest < most
  pub same : behind_values values (repeat reader most rest) ≡ total

none_yet : {A : Type 0} (r : Result (List A) Bad) → behind_values [] r ≡ r
none_yet (Ok values) = refl
none_yet (Err bad) = refl

regroup : {A : Type 0} (values : List A) (value : A) (r : Result (List A) Bad) → behind_values values (onto value r) ≡ behind_values (values ++ value ∷ []) r
regroup {A} values value (Ok more) = ap (λ (x : List A). Ok x) (simp append_assoc)
regroup values value (Err bad) = refl

module _ {S A : Type 0} (reader : Reader S A Bad) (size : S → ℕ) where
  pub starts : (most : ℕ) (whole : S) → size whole < most → Goes reader size whole [] (repeat reader most whole)
  starts most whole lt = record { most = most; enough = lt; same = none_yet (repeat reader most whole) }

  one_turn : (most : ℕ) (rest : S) (values : List A) (total : Result (List A) Bad) → size rest < most → behind_values values (repeat reader most rest) ≡ total
      → (n : ℕ) × (most ≡ suc n) × (behind_values values (then (repeat reader n) (reader rest)) ≡ total)
  one_turn zero rest values total lt same = absurd (omega arith)
  one_turn (suc n) rest values total lt same = (n, refl, same)

  pub goes_on : (rest after : S) (values : List A) (value : A) (total : Result (List A) Bad) → Goes reader size rest values total
      → reader rest ≡ Ok (Some (value, after)) → size after < size rest → Goes reader size after (values ++ value ∷ []) total
  goes_on rest after values value total g read shorter =
      let t = one_turn g.most rest values total g.enough g.same in
      record { most = t.0; enough = omega (arith, g.enough, t.1); same = sym (regroup values value (repeat reader t.0 after)) ∙ (rw read at t.2) }

  pub stops : (e : Refusal) (rest : S) (values : List A) (total : Result (List A) Bad) → Goes reader size rest values total → Refuses e (reader rest) → Refuses e total
  stops refusals.NoMemory rest values total g h = tt
  stops (refusals.Bad bad) rest values total g h = let t = one_turn g.most rest values total g.enough g.same in sym (rw h at t.2)

  pub ends : (rest : S) (values : List A) (total : Result (List A) Bad) → Goes reader size rest values total → reader rest ≡ Ok None → total ≡ Ok values
  ends rest values total g read =
      let t = one_turn g.most rest values total g.enough g.same in
      sym (rw read at t.2) ∙ ap (λ (x : List A). Ok x) (append-nil values)
