-- Steps that may fail, and what a reader on lists owes.
use Rattle.std.proofs.Common.{◌≡◌, ℕ, ◌+◌, ◌-◌, ◌≤◌, Bool, true, false, cond, List, ◌++◌, length, take, drop, Option, Some, None, Result, Ok, Err, OnOk, refl, sym, ◌∙◌, ap, subst, arith, take-append-drop, length-append}
use Rattle.std.proofs.lemmas.List.{take_at, drop_at, get_or-drop}
use Rattle.spop_varint.specs.Reading.{◌>>=◌}
use Rattle.spop_varint.proofs.Laws.{IsBytes}
use Rattle.spop_data.specs.Answer.{Refuses, IsPrefix, IsInvalid}
use Rattle.spop_data.specs.declared.value.DataFault as faults
use Rattle.spop_data.specs.declared.value.DataFault.TheVariants as fault

pub bind_some : {A B : Type 0} (o : Option A) (f : A → Option B) (y : B) → (o >>= f) ≡ Some y → (x : A) × (o ≡ Some x) × (f x ≡ Some y)
bind_some (Some x) f y e = (x, refl, e)
bind_some None f y e = absurd cc

pub guard_some : {A : Type 0} (b : Bool) (o : Option A) (y : A) → cond b o None ≡ Some y → (b ≡ true) × (o ≡ Some y)
guard_some true o y e = (refl, e)
guard_some false o y e = absurd cc

value_or : {A : Type 0} → A → Option A → A
value_or d (Some x) = x
value_or d None = d

pub some_is : {A : Type 0} (x y : A) → Some x ≡ Some y → x ≡ y
unfolding value_or
some_is x y e = ap (λ o. value_or x o) e

pub on_ok : {T E P Q : Type 0} (r : Result T E) → (P → Q) → OnOk r P → OnOk r Q
on_ok (Ok x) f p = f p
on_ok (Err e) f p = tt

-- a refusal that was passed on
pub refused : {T Y : Type 0} (e : faults.DataFault) (o : Option Y) → Refuses e o → ◌≡◌ {A = Result T faults.DataFault} (Err e) (Err fault.Invalid) → o ≡ None
refused fault.Invalid o g is = g
refused fault.NoMemory o g is = absurd cc

pub bytes_drop : (n : ℕ) (bytes : List ℕ) → IsBytes bytes → IsBytes (drop n bytes)
bytes_drop n bytes all i = omega (arith, get_or-drop n bytes i 0, all (n + i))

pub bytes_rest : (bytes front rest : List ℕ) → bytes ≡ front ++ rest → IsBytes bytes → IsBytes rest
bytes_rest bytes front rest is all =
    let same : drop (length front) bytes ≡ rest = ap (λ (l : List ℕ). drop (length front) l) is ∙ drop_at front rest (length front) refl in
    subst (λ (l : List ℕ). IsBytes l) same (bytes_drop (length front) bytes all)

-- the reader finds what is spelled, and nothing else
pub record Meets {A : Type 0} (one : List ℕ → Option (A × List ℕ)) (R : List ℕ → A → Type 0) : Type 0 where
  pub found : (bytes : List ℕ) (x : A) (rest : List ℕ) → IsBytes bytes → one bytes ≡ Some (x, rest) → (front : List ℕ) × R front x × (bytes ≡ front ++ rest)
  pub again : (front rest : List ℕ) (x : A) → R front x → one (front ++ rest) ≡ Some (x, rest)

same_size : (a b x y : ℕ) → a + x ≡ b + y → x ≡ y → a ≡ b
same_size a b x y e f = omega arith

module _ {A : Type 0} (one : List ℕ → Option (A × List ℕ)) (R : List ℕ → A → Type 0) (m : Meets one R) where
  pub none : (bytes : List ℕ) → one bytes ≡ None → IsInvalid R bytes
  none bytes e = λ used x r.
      let whole : take used bytes ++ drop used bytes ≡ bytes = take-append-drop used bytes in
      let read : one bytes ≡ Some (x, drop used bytes) = ap one (sym whole) ∙ m.again (take used bytes) (drop used bytes) x r in
      cc (read, e)

  module _ (bytes : List ℕ) (all : IsBytes bytes) (x : A) (rest : List ℕ) (e : one bytes ≡ Some (x, rest)) where
    f : (front : List ℕ) × R front x × (bytes ≡ front ++ rest)
    f = m.found bytes x rest all e

    used : length bytes - length rest ≡ length f.0
    used = omega (arith, ap length f.2, length-append f.0 rest)

    pub shorter : length rest ≤ length bytes
    shorter = omega (arith, ap length f.2, length-append f.0 rest)

    front_is : take (length bytes - length rest) bytes ≡ f.0
    front_is = (λ i. take (used i) (f.2 i)) ∙ take_at f.0 rest (length f.0) refl

    pub front : IsPrefix R bytes x (length bytes - length rest)
    front = record { within = omega arith; spelled = subst (λ (l : List ℕ). R l x) (sym front_is) f.1 }

    pub left : one bytes ≡ Some (x, drop (length bytes - length rest) bytes)
    left = e ∙ ap (λ (l : List ℕ). Some (x, l)) (sym ((λ i. drop (used i) (f.2 i)) ∙ drop_at f.0 rest (length f.0) refl))

    pub never : IsInvalid R bytes → ⊥
    never none = none (length bytes - length rest) x (front.spelled)

  pub apart : (a b x y : List ℕ) (d e : A) → R a d → R b e → a ++ x ≡ b ++ y → (a ≡ b) × (d ≡ e)
  apart a b x y d e r s is =
      let both : (d, x) ≡ (e, y) = some_is (d, x) (e, y) (sym (m.again a x d r) ∙ ap one is ∙ m.again b y e s) in
      let rest : length x ≡ length y = ap (λ p. length p.1) both in
      let whole : length (a ++ x) ≡ length (b ++ y) = ap length is in
      let size : length a ≡ length b = same_size (length a) (length b) (length x) (length y) (sym (length-append a x) ∙ whole ∙ length-append b y) rest in
      (sym (take_at a x (length a) refl) ∙ (λ i. take (size i) (is i)) ∙ take_at b y (length b) refl, ap (λ p. p.0) both)
