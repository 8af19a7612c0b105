-- Items that stand one after the other.
use Rattle.std.proofs.Common.{◌≡◌, ℕ, zero, suc, ◌<◌, ◌≤◌, List, [], ◌∷◌, ◌++◌, length, Option, Some, None, refl, sym, ◌∙◌, ap, subst, arith, append_assoc, length-append}
use Rattle.spop_varint.specs.Reading.{◌>>=◌}
use Rattle.spop_varint.proofs.Laws.{IsBytes}
use Rattle.spop_data.specs.Lists.{SpellsEach, several_at, up_to, all_of}
use Rattle.spop_data.proofs.Steps.{Meets, bind_some, some_is, bytes_rest}

-- items that were read before those of a list
abbrev pub behind : {A : Type 0} → List A → Option (List A × List ℕ) → Option (List A × List ℕ)
behind xs (Some x) = Some (xs ++ x.0, x.1)
behind xs None = None

pub behind_none : {A : Type 0} (o : Option (List A × List ℕ)) → behind [] o ≡ o
behind_none (Some x) = refl
behind_none None = refl

-- one item more
module _ {A : Type 0} (one : List ℕ → Option (A × List ℕ)) (n : ℕ) (xs : List A) (bytes : List ℕ) where
  with_one : (x : A) (o : Option (List A × List ℕ)) → behind (xs ++ x ∷ []) o ≡ behind xs (o >>= (λ r. Some (x ∷ r.0, r.1)))
  with_one x (Some r) = ap (λ (l : List A). Some (l, r.1)) (append_assoc xs (x ∷ []) r.0)
  with_one x None = refl

  pub behind_one : (x : A) (more : List ℕ) → one bytes ≡ Some (x, more) → behind (xs ++ x ∷ []) (several_at one n more) ≡ behind xs (several_at one (suc n) bytes)
  behind_one x more e = rw e (with_one x (several_at one n more))

  pub behind_fault : one bytes ≡ None → behind xs (several_at one (suc n) bytes) ≡ None
  behind_fault e = rw e refl

module _ {A : Type 0} (one : List ℕ → Option (A × List ℕ)) (R : List ℕ → A → Type 0) (m : Meets one R) where
  pub several_found : (n : ℕ) (bytes : List ℕ) (xs : List A) (rest : List ℕ) → IsBytes bytes → several_at one n bytes ≡ Some (xs, rest)
      → (front : List ℕ) × SpellsEach R front xs × (length xs ≡ n) × (bytes ≡ front ++ rest)
  several_found zero bytes xs rest all e =
      let both = some_is ([], bytes) (xs, rest) e in
      let empty : [] ≡ xs = ap (λ p. p.0) both in
      ([], subst (λ (l : List A). SpellsEach R [] l) empty refl, sym (ap length empty), ap (λ p. p.1) both)
  several_found (suc n) bytes xs rest all e =
      let b = bind_some (one bytes) _ _ e in
      let first = m.found bytes b.0.0 b.0.1 all b.1 in
      let b2 = bind_some (several_at one n b.0.1) _ _ b.2 in
      let more = several_found n b.0.1 b2.0.0 b2.0.1 (bytes_rest bytes first.0 b.0.1 first.2 all) b2.1 in
      let both = some_is (b.0.0 ∷ b2.0.0, b2.0.1) (xs, rest) b2.2 in
      let list : b.0.0 ∷ b2.0.0 ≡ xs = ap (λ p. p.0) both in
      let last : b2.0.1 ≡ rest = ap (λ p. p.1) both in (
        first.0 ++ more.0,
        subst (λ (l : List A). SpellsEach R (first.0 ++ more.0) l) list (first.0, more.0, first.1, more.1, refl),
        sym (ap length list) ∙ ap (λ k. suc k) more.2,
        first.2 ∙ ap (λ (l : List ℕ). first.0 ++ l) (more.3 ∙ ap (λ (l : List ℕ). more.0 ++ l) last) ∙ sym (append_assoc first.0 more.0 rest),
      )

  pub several_again : (front rest : List ℕ) (xs : List A) → SpellsEach R front xs → several_at one (length xs) (front ++ rest) ≡ Some (xs, rest)
  several_again front rest [] s = ap (λ (l : List ℕ). Some ([], l ++ rest)) s
  several_again front rest (x ∷ xs) s =
      let start : front ++ rest ≡ s.0 ++ (s.1 ++ rest) = ap (λ (l : List ℕ). l ++ rest) s.4 ∙ append_assoc s.0 s.1 rest in
      let first : one (front ++ rest) ≡ Some (x, s.1 ++ rest) = ap one start ∙ m.again s.0 (s.1 ++ rest) x s.2 in
      rw (first, several_again s.1 rest xs s.3) refl

  -- a list to the end of the bytes
  pub up_to_found : (most : ℕ) (bytes : List ℕ) (xs : List A) → IsBytes bytes → up_to one most bytes ≡ Some xs → SpellsEach R bytes xs
  up_to_found most [] xs all e = subst (λ (l : List A). SpellsEach R [] l) (some_is [] xs e) refl
  up_to_found zero (b ∷ bytes) xs all e = absurd cc
  up_to_found (suc most) (b ∷ bytes) xs all e =
      let s = bind_some (one (b ∷ bytes)) _ _ e in
      let first = m.found (b ∷ bytes) s.0.0 s.0.1 all s.1 in
      let s2 = bind_some (up_to one most s.0.1) _ _ s.2 in
      let more = up_to_found most s.0.1 s2.0 (bytes_rest (b ∷ bytes) first.0 s.0.1 first.2 all) s2.1 in
      let list : s.0.0 ∷ s2.0 ≡ xs = some_is (s.0.0 ∷ s2.0) xs s2.2 in
      subst (λ (l : List A). SpellsEach R (b ∷ bytes) l) list (first.0, s.0.1, first.1, more, first.2)

  module _ (some : (bytes : List ℕ) (x : A) → R bytes x → 0 < length bytes) where
    pub up_to_again : (most : ℕ) (bytes : List ℕ) (xs : List A) → length bytes ≤ most → SpellsEach R bytes xs → up_to one most bytes ≡ Some xs
    up_to_again most [] [] enough s = refl
    up_to_again most [] (x ∷ xs) enough s = absurd (omega (arith, some s.0 x s.2, ap length s.4, length-append s.0 s.1))
    up_to_again most (b ∷ bytes) [] enough s = absurd cc
    up_to_again zero (b ∷ bytes) (x ∷ xs) enough s = absurd (omega (arith, enough))
    up_to_again (suc most) (b ∷ bytes) (x ∷ xs) enough s =
        let first : one (b ∷ bytes) ≡ Some (x, s.1) = ap one s.4 ∙ m.again s.0 s.1 x s.2 in
        let fewer : length s.1 ≤ most = omega (arith, some s.0 x s.2, ap length s.4, length-append s.0 s.1, enough) in
        rw (first, up_to_again most s.1 xs fewer s.3) refl

    pub all_found : (bytes : List ℕ) (xs : List A) → IsBytes bytes → all_of one bytes ≡ Some xs → SpellsEach R bytes xs
    all_found bytes xs all e = up_to_found (length bytes) bytes xs all e

    pub all_again : (bytes : List ℕ) (xs : List A) → SpellsEach R bytes xs → all_of one bytes ≡ Some xs
    all_again bytes xs s = up_to_again (length bytes) bytes xs (omega arith) s

-- a list that was read before another
abbrev pub after : {A : Type 0} → List A → Option (List A) → Option (List A)
after xs (Some ys) = Some (xs ++ ys)
after xs None = None

pub after_none : {A : Type 0} (o : Option (List A)) → after [] o ≡ o
after_none (Some ys) = refl
after_none None = refl

-- one item more of a list to the end of the bytes
module _ {A : Type 0} (one : List ℕ → Option (A × List ℕ)) (R : List ℕ → A → Type 0) (m : Meets one R) (some : (bytes : List ℕ) (x : A) → R bytes x → 0 < length bytes) where
  pub smaller : (bytes : List ℕ) (x : A) (rest : List ℕ) → IsBytes bytes → one bytes ≡ Some (x, rest) → length rest < length bytes
  smaller bytes x rest all e =
      let f = m.found bytes x rest all e in
      omega (arith, some f.0 x f.1, ap length f.2, length-append f.0 rest)

  pub left_bytes : (bytes : List ℕ) (x : A) (rest : List ℕ) → IsBytes bytes → one bytes ≡ Some (x, rest) → IsBytes rest
  left_bytes bytes x rest all e = let f = m.found bytes x rest all e in bytes_rest bytes f.0 rest f.2 all

  step : (n k b : ℕ) (bytes : List ℕ) → ((rest : List ℕ) → IsBytes rest → length rest ≤ n → length rest ≤ k → up_to one n rest ≡ up_to one k rest)
      → IsBytes (b ∷ bytes) → length (b ∷ bytes) ≤ suc n → length (b ∷ bytes) ≤ suc k → (o : Option (A × List ℕ)) → one (b ∷ bytes) ≡ o → up_to one (suc n) (b ∷ bytes) ≡ up_to one (suc k) (b ∷ bytes)
  step n k b bytes same all p q None e = rw e refl
  step n k b bytes same all p q (Some x) e =
      let fewer : length x.1 < length (b ∷ bytes) = smaller (b ∷ bytes) x.0 x.1 all e in
      let rest : up_to one n x.1 ≡ up_to one k x.1 = same x.1 (left_bytes (b ∷ bytes) x.0 x.1 all e) (omega (arith, fewer, p)) (omega (arith, fewer, q)) in
      rw e (ap (λ o. o >>= (λ xs. Some (x.0 ∷ xs))) rest)

  -- more than enough changes nothing
  enough : (n k : ℕ) (bytes : List ℕ) → IsBytes bytes → length bytes ≤ n → length bytes ≤ k → up_to one n bytes ≡ up_to one k bytes
  enough n k [] all p q = refl
  enough zero k (b ∷ bytes) all p q = absurd (omega (arith, p))
  enough (suc n) zero (b ∷ bytes) all p q = absurd (omega (arith, q))
  enough (suc n) (suc k) (b ∷ bytes) all p q = step n k b bytes (λ rest. enough n k rest) all p q (one (b ∷ bytes)) refl

  joined : (xs : List A) (x : A) (o : Option (List A)) → after (xs ++ x ∷ []) o ≡ after xs (o >>= (λ ys. Some (x ∷ ys)))
  joined xs x (Some ys) = ap (λ (l : List A). Some l) (append_assoc xs (x ∷ []) ys)
  joined xs x None = refl

  pub after_one : (xs : List A) (bytes : List ℕ) (x : A) (rest : List ℕ) → IsBytes bytes → 0 < length bytes → one bytes ≡ Some (x, rest) → after (xs ++ x ∷ []) (all_of one rest) ≡ after xs (all_of one bytes)
  after_one xs [] x rest all has e = absurd (omega (arith, has))
  after_one xs (b ∷ bytes) x rest all has e =
      let fewer : length rest < length (b ∷ bytes) = smaller (b ∷ bytes) x rest all e in
      let same : up_to one (length rest) rest ≡ up_to one (length bytes) rest = enough (length rest) (length bytes) rest (left_bytes (b ∷ bytes) x rest all e) (omega arith) (omega (arith, fewer)) in
      joined xs x (all_of one rest) ∙ ap (λ o. after xs (o >>= (λ ys. Some (x ∷ ys)))) same ∙ rw e refl

  pub after_fault : (xs : List A) (bytes : List ℕ) → 0 < length bytes → one bytes ≡ None → after xs (all_of one bytes) ≡ None
  after_fault xs [] has e = absurd (omega (arith, has))
  after_fault xs (b ∷ bytes) has e = rw e refl
