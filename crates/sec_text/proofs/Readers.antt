-- Readers that are used again and again.
use Rattle.std.proofs.Common.{◌≡◌, ℕ, zero, suc, ◌<◌, arith, List, [], ◌∷◌, ◌++◌, Option, Some, None, Result, Ok, Err, refl, sym, ap, subst, ◌∙◌}
use Rattle.sec_text.specs.Readers.{Reader, Takes, ReadsAll, onto, then, repeat}

-- one more value at the end
pub one_more : {S A E : Type 0} (reader : Reader S A E) (whole : S) (values : List A) (rest : S) (value : A) (after : S)
    → Takes reader whole values rest → reader rest ≡ Ok (Some (value, after)) → Takes reader whole (values ++ value ∷ []) after
one_more {S} reader whole [] rest value after start step = (after, ap reader start ∙ step, refl)
one_more reader whole (first ∷ values) rest value after t step = (t.0, t.1, one_more reader t.0 values rest value after t.2 step)

-- no value is taken any more
abbrev IsLast : {S A E : Type 0} → Result (Option (A × S)) E → Type 0
IsLast (Ok None) = Unit {0}
IsLast (Ok (Some x)) = ⊥
IsLast (Err e) = Unit {0}

abbrev Ends : {S A E : Type 0} → Reader S A E → S → List A → Result (Option (A × S)) E → Type 0
Ends {S} reader whole values last = (rest : S) × Takes reader whole values rest × (reader rest ≡ last)

abbrev step_of : {S A E : Type 0} → A → S → Result (Option (A × S)) E
step_of value rest = Ok (Some (value, rest))

pair_of : {S A E : Type 0} (a b : A) (s t : S) → step_of {E = E} a s ≡ step_of b t → (a ≡ b) × (s ≡ t)
pair_of {S} {A} a b s t e = let pair : (a, s) ≡ (b, t) = cc in (ap (λ (x : A × S). x.0) pair, ap (λ (x : A × S). x.1) pair)

alike : {S A E : Type 0} (reader : Reader S A E) (s t : S) → s ≡ t → (xs ys : List A) (f g : Result (Option (A × S)) E) → IsLast f → IsLast g
    → Ends reader s xs f → Ends reader t ys g → (xs ≡ ys) × (f ≡ g)
alike reader s t same [] [] f g last-f last-g p q = (refl, sym p.2 ∙ ap reader (sym p.1 ∙ same ∙ q.1) ∙ q.2)
alike reader s t same [] (b ∷ ys) f g last-f last-g p q =
    absurd (subst IsLast (sym p.2 ∙ ap reader (sym p.1 ∙ same) ∙ q.1.1) last-f)
alike reader s t same (a ∷ xs) [] f g last-f last-g p q =
    absurd (subst IsLast (sym q.2 ∙ ap reader (sym q.1 ∙ sym same) ∙ p.1.1) last-g)
alike reader s t same (a ∷ xs) (b ∷ ys) f g last-f last-g p q =
    let both = pair_of a b p.1.0 q.1.0 (sym p.1.1 ∙ ap reader same ∙ q.1.1) in
    let rest = alike reader p.1.0 q.1.0 both.1 xs ys f g last-f last-g (p.0, p.1.2, p.2) (q.0, q.1.2, q.2) in
    (cc (both.0, rest.0), rest.1)

-- A whole text has one reading.
pub one_reading : {S A E : Type 0} (reader : Reader S A E) (whole : S) (first second : Result (List A) E) → ReadsAll reader whole first → ReadsAll reader whole second → first ≡ second
one_reading reader whole (Ok xs) (Ok ys) p q = ap (λ v. Ok v) (alike reader whole whole refl xs ys (Ok None) (Ok None) tt tt p q).0
one_reading reader whole (Ok xs) (Err e) p q =
    let no = (alike reader whole whole refl xs q.0 (Ok None) (Err e) tt tt p (q.1, q.2, q.3)).1 in absurd cc
one_reading reader whole (Err e) (Ok ys) p q =
    let no = (alike reader whole whole refl p.0 ys (Err e) (Ok None) tt tt (p.1, p.2, p.3) q).1 in absurd cc
one_reading {S} {A} {E} reader whole (Err e) (Err f) p q =
    let same = (alike reader whole whole refl p.0 q.0 (Err e) (Err f) tt tt (p.1, p.2, p.3) (q.1, q.2, q.3)).1 in
    let one : e ≡ f = cc in ap (λ (x : E). Err x) one

-- ---- the function gives the reading, where each value makes what is left smaller

front : {S A E : Type 0} (reader : Reader S A E) (whole : S) (x : A × S) (more : Result (List A) E) → reader whole ≡ Ok (Some x) → ReadsAll reader x.1 more → ReadsAll reader whole (onto x.0 more)
front reader whole x (Ok values) step p = (p.0, (x.1, step, p.1), p.2)
front reader whole x (Err fault) step p = (x.0 ∷ p.0, p.1, (x.1, step, p.2), p.3)

module _ {S A E : Type 0} (reader : Reader S A E) (size : S → ℕ) (shrinks : (whole : S) (x : A × S) → reader whole ≡ Ok (Some x) → size x.1 < size whole) where
  by_step : (n : ℕ) (whole : S) (r : Result (Option (A × S)) E) → size whole < suc n → reader whole ≡ r
      → ((x : A × S) → size x.1 < n → ReadsAll reader x.1 (repeat reader n x.1)) → ReadsAll reader whole (then (repeat reader n) r)
  by_step n whole (Ok None) lt step more = (whole, refl, step)
  by_step n whole (Ok (Some x)) lt step more =
      let smaller = shrinks whole x step in
      front reader whole x (repeat reader n x.1) step (more x (omega arith))
  by_step n whole (Err fault) lt step more = ([], whole, refl, step)

  pub repeat-reads : (n : ℕ) (whole : S) → size whole < n → ReadsAll reader whole (repeat reader n whole)
  repeat-reads zero whole lt = absurd (omega arith)
  repeat-reads (suc n) whole lt = by_step n whole (reader whole) lt refl (λ x. repeat-reads n x.1)
