-- The numbers, and the bytes that they count.
use Rattle.std.proofs.Common.{Option, Some, None, IfSome, IfNone, ◌≡◌, ℕ, ◌≤◌, List, ◌++◌, length, take, drop, refl, sym, ◌∙◌, ap, subst, arith, append_assoc, take-append-drop, length-append}
use Rattle.std.proofs.lemmas.List.{take_at, drop_at, length-take-le}
use Rattle.std.proofs.lemmas.Bool.{le-leb, leb-true}
use Rattle.std.specs.Option.{option_map}
use Rattle.spop_varint.specs.declared.read.Varint as numbers
use Rattle.spop_varint.specs.declared.read.Varint.TheVariants as number
use Rattle.spop_varint.specs.Varint.{Spells}
use Rattle.spop_varint.specs.Reading.{number_at, split_by}
use Rattle.spop_varint.proofs.Laws.{IsBytes, Answers, number_answers, again}
use Rattle.spop_data.specs.Data.{IsCounted, IsText}
use Rattle.spop_data.specs.Answer.{IsInvalid}
use Rattle.spop_data.specs.Reading.{varint_at, cut_at, counted_at}
use Rattle.spop_data.proofs.Steps.{Meets, none, bind_some, guard_some, some_is}

split_found : (bytes : List ℕ) (answer : numbers.Varint) (v : ℕ) (rest : List ℕ) → Answers bytes answer → split_by answer bytes ≡ Some (v, rest) → (front : List ℕ) × Spells front v × (bytes ≡ front ++ rest)
split_found bytes (number.Read w n) v rest a e =
    let both = some_is (w, drop n bytes) (v, rest) e in (
      take n bytes,
      subst (λ (m : ℕ). Spells (take n bytes) m) (ap (λ p. p.0) both) a.1,
      sym (take-append-drop n bytes) ∙ ap (λ p. take n bytes ++ p.1) both,
    )
split_found bytes number.Short v rest a e = absurd cc
split_found bytes number.TooLarge v rest a e = absurd cc

varint_found : (bytes : List ℕ) (v : ℕ) (rest : List ℕ) → IsBytes bytes → varint_at bytes ≡ Some (v, rest) → (front : List ℕ) × Spells front v × (bytes ≡ front ++ rest)
unfolding varint_at
varint_found bytes v rest all e = split_found bytes (number_at bytes) v rest (number_answers bytes all) e

varint_again : (front rest : List ℕ) (v : ℕ) → Spells front v → varint_at (front ++ rest) ≡ Some (v, rest)
unfolding varint_at
varint_again front rest v s =
    ap (λ (answer : numbers.Varint). split_by answer (front ++ rest)) (again front rest v s)
    ∙ ap (λ (l : List ℕ). Some (v, l)) (drop_at front rest (length front) refl)

pub varint : Meets varint_at Spells
varint = record { found = varint_found; again = varint_again }

pub cut_found : (n : ℕ) (bytes x rest : List ℕ) → cut_at n bytes ≡ Some (x, rest) → (length x ≡ n) × (bytes ≡ x ++ rest)
unfolding cut_at
cut_found n bytes x rest e =
    let g = guard_some _ _ _ e in
    let both = some_is (take n bytes, drop n bytes) (x, rest) g.1 in
    let x_is : take n bytes ≡ x = ap (λ p. p.0) both in
    let rest_is : drop n bytes ≡ rest = ap (λ p. p.1) both in
    let enough : n ≤ length bytes = leb-true n (length bytes) g.0 in
    (sym (ap length x_is) ∙ length-take-le n bytes enough, sym (take-append-drop n bytes) ∙ (λ i. x_is i ++ rest_is i))

pub cut_again : (n : ℕ) (x rest : List ℕ) → length x ≡ n → cut_at n (x ++ rest) ≡ Some (x, rest)
unfolding cut_at
cut_again n x rest size =
    rw (le-leb n (length (x ++ rest)) (omega (arith, size, length-append x rest))) (λ i. Some (take_at x rest n size i, drop_at x rest n size i))

counted_found : (bytes text rest : List ℕ) → IsBytes bytes → counted_at bytes ≡ Some (text, rest) → (front : List ℕ) × IsCounted front text × (bytes ≡ front ++ rest)
unfolding counted_at
counted_found bytes text rest all e =
    let b = bind_some (varint_at bytes) _ _ e in
    let n = varint.found bytes b.0.0 b.0.1 all b.1 in
    let cut = cut_found b.0.0 b.0.1 text rest b.2 in (
      n.0 ++ text,
      record { count = n.0; count_is = subst (λ (m : ℕ). Spells n.0 m) (sym cut.0) n.1; is = refl },
      n.2 ∙ ap (λ (l : List ℕ). n.0 ++ l) cut.1 ∙ sym (append_assoc n.0 text rest),
    )

counted_again : (front rest text : List ℕ) → IsCounted front text → counted_at (front ++ rest) ≡ Some (text, rest)
unfolding counted_at
counted_again front rest text s =
    let start : front ++ rest ≡ s.count ++ (text ++ rest) = ap (λ (l : List ℕ). l ++ rest) s.is ∙ append_assoc s.count text rest in
    let first : varint_at (front ++ rest) ≡ Some (length text, text ++ rest) = ap varint_at start ∙ varint_again s.count (text ++ rest) (length text) s.count_is in
    rw first (cut_again (length text) text rest refl)

pub counted : Meets counted_at IsCounted
counted = record { found = counted_found; again = counted_again }

-- the same of a call that answers what counted_at gives
module _ {X : Type 0} (view : X → List ℕ × List ℕ) (bytes : List ℕ) where
  pub is_text : IsBytes bytes → (r : Option X) → option_map view r ≡ counted_at bytes → IfSome r (λ x. IsText bytes (view x).0 (view x).1)
  is_text all (Some x) e = counted_found bytes (view x).0 (view x).1 all (sym e)
  is_text all None e = tt

  pub no_text : (r : Option X) → option_map view r ≡ counted_at bytes → IfNone r (IsInvalid IsCounted bytes)
  no_text (Some x) e = tt
  no_text None e = none counted_at IsCounted counted bytes (sym e)
