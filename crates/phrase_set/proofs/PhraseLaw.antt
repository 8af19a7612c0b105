-- The phrase found is the occurrence that ends first, for all lists.
use Rattle.std.proofs.Common.{◌≡◌, ◌∙◌, ℕ, zero, suc, ◌+◌, ◌≤◌, inl, inr, List, [], length, get_or, take, Option, Some, None, refl, sym, ap, ap₂, subst, arith, ⊎_elim, true, false, ◌==◌, ◌&&◌, ◌||◌}
use Rattle.std.specs.Prelude.{nat_lt, nat_le}
use Rattle.std.proofs.lemmas.List.{take_all}
use Rattle.std.specs.Option.{option_map}
use Rattle.std.proofs.lemmas.Bool.{cases_Bool, cases_lt, cond_both, or_cases, or_parts, and_parts, and_cases, ltb-true, ltb-false, leb-true, leb-false, eqb-true, eqb-false, false≢true}
use Rattle.memchr.specs.Find.{OccursAt, FindsNeedle, Nowhere, occurs_at}
use Rattle.memchr.proofs.lemmas.MatchLemmas.{occurs_at-true, OccursAt-true}
use Rattle.memchr.proofs.lemmas.ValueLemmas.{FindsNeedle-value}
use Rattle.phrase_set.specs.Phrases.{IsFirstEnd, IsEarlier, NotBehind, earlier, better, span_of, place_of, first_end}
use Rattle.phrase_set.proofs.Earliest.{passed, added, first_end_turn}

-- a search of the places from i on, where none before i fits
with_first : (hay needle : List ℕ) (C : Type 0) (n i : ℕ) → i + n ≡ length hay + 1 → Nowhere (OccursAt hay needle) 0 i → ((r : Option ℕ) → FindsNeedle hay needle 0 r → C) → C
with_first hay needle C zero i e none k = k None (λ q low high. none q low (omega (arith, e, high)))
with_first hay needle C (suc n) i e none k = ⊎_elim
    (λ t. k (Some i) (record { low = omega arith; high = omega (arith, e); before = none }, OccursAt-true hay needle i t))
    (λ f. with_first hay needle C n (i + 1) (omega (arith, e)) (λ q low high occurs. elim (cases_lt q i) [
      | inl below ↦ none q low below occurs
      | inr past ↦ absurd (false≢true (sym f ∙ occurs_at-true hay needle i (let same : q ≡ i = omega (arith, past, high) in subst (λ (x : ℕ). OccursAt hay needle x) same occurs)))
    ]) k)
    (cases_Bool (occurs_at hay needle i))

finds_place : (text needle : List ℕ) → FindsNeedle text needle 0 (place_of text needle)
unfolding place_of
finds_place text needle = with_first text needle (FindsNeedle text needle 0 (place_of text needle)) (length text + 1) 0 (omega arith)
    (λ q low high occurs. absurd (omega (arith, high)))
    (λ r f. subst (λ (x : Option ℕ). FindsNeedle text needle 0 x) (FindsNeedle-value text needle r f) f)

itself : (a : ℕ × ℕ) → NotBehind a a
itself a = record { no_later = omega arith; no_shorter = λ e. omega arith }

held : (best found : ℕ × ℕ) → (nat_lt best.1 found.1 || (best.1 == found.1 && nat_le best.0 found.0)) ≡ true → NotBehind best found
held best found t = elim (or_cases _ _ t) [
  | inl less ↦ (let l = ltb-true best.1 found.1 less in record { no_later = omega (arith, l); no_shorter = λ e. absurd (omega (arith, l, e)) })
  | inr both ↦ (let parts = and_parts _ _ both in let same = eqb-true best.1 found.1 parts.0 in let le = leb-true best.0 found.0 parts.1 in
      record { no_later = omega (arith, same); no_shorter = λ e. le })
]

replaced : (best found : ℕ × ℕ) → (nat_lt best.1 found.1 || (best.1 == found.1 && nat_le best.0 found.0)) ≡ false → NotBehind found best
replaced best found f =
    let parts = or_parts _ _ f in
    let past : found.1 ≤ best.1 = ltb-false best.1 found.1 parts.0 in
    elim (and_cases _ _ parts.1) [
      | inl differ ↦ record { no_later = past; no_shorter = λ e. absurd (eqb-false best.1 found.1 differ (sym e)) }
      | inr more ↦ (let m = leb-false best.0 found.0 more in record { no_later = past; no_shorter = λ e. omega (arith, m) })
    ]

pub earlier_is : (best found : ℕ × ℕ) → IsEarlier (Some best) found (earlier best found)
unfolding earlier
earlier_is best found = cond_both (nat_lt best.1 found.1 || (best.1 == found.1 && nat_le best.0 found.0)) best found
    (λ (a : ℕ × ℕ). IsEarlier (Some best) found a)
    (λ t. (inr refl, held best found t, itself best))
    (λ f. (inl refl, itself found, replaced best found f))

turn : (n : ℕ) (phrases : List (List ℕ)) (text : List ℕ) (best : Option (ℕ × ℕ)) (r : Option ℕ) → FindsNeedle text (get_or phrases n []) 0 r → IsFirstEnd n phrases text best
    → IsFirstEnd (n + 1) phrases text (better best (option_map (λ start. (start, start + length (get_or phrases n []))) r))
turn n phrases text None None f first = passed n phrases text None first f
turn n phrases text (Some best) None f first = passed n phrases text (Some best) first f
turn n phrases text None (Some s) f first =
    let found : ℕ × ℕ = (s, s + length (get_or phrases n [])) in
    added n phrases text None s found found first f refl refl (inl refl, itself found, tt)
turn n phrases text (Some best) (Some s) f first =
    let found : ℕ × ℕ = (s, s + length (get_or phrases n [])) in
    added n phrases text (Some best) s found (earlier best found) first f refl refl (earlier_is best found)

none_yet : (phrases : List (List ℕ)) (text : List ℕ) → IsFirstEnd 0 phrases text (first_end [] text)
unfolding first_end
none_yet phrases text = λ place o. absurd (omega (arith, o.among))

front_is : (phrases : List (List ℕ)) (text : List ℕ) (i : ℕ) → i ≤ length phrases → IsFirstEnd i phrases text (first_end (take i phrases) text)
front_is phrases text zero le = none_yet phrases text
front_is phrases text (suc i) le =
    let best = first_end (take i phrases) text in
    let phrase = get_or phrases i [] in
    let step : better best (span_of text phrase) ≡ first_end (take (i + 1) phrases) text = first_end_turn phrases text i best (better best (span_of text phrase)) phrase (omega (arith, le)) refl refl refl in
    let e : i + 1 ≡ suc i = omega arith in
    let more : IsFirstEnd (i + 1) phrases text (first_end (take (i + 1) phrases) text) = subst (λ (b : Option (ℕ × ℕ)). IsFirstEnd (i + 1) phrases text b) step (turn i phrases text best (place_of text phrase) (finds_place text phrase) (front_is phrases text i (omega (arith, le)))) in
    subst (λ (n : ℕ). IsFirstEnd n phrases text (first_end (take n phrases) text)) e more

pub first_end_is : (phrases : List (List ℕ)) (text : List ℕ) → IsFirstEnd (length phrases) phrases text (first_end phrases text)
first_end_is phrases text = subst (λ (l : List (List ℕ)). IsFirstEnd (length phrases) phrases text (first_end l text)) (take_all (length phrases) phrases (omega arith)) (front_is phrases text (length phrases) (omega arith))

same_place : (a b : ℕ × ℕ) → NotBehind a b → NotBehind b a → a ≡ b
same_place a b one two =
    let ends : a.1 ≡ b.1 = omega (arith, one.no_later, two.no_later) in
    let starts : a.0 ≡ b.0 = omega (arith, one.no_shorter ends, two.no_shorter (sym ends)) in
    ap₂ (λ (start end : ℕ). (start, end)) starts ends

-- one answer alone is that occurrence
pub only_one : (n : ℕ) (phrases : List (List ℕ)) (text : List ℕ) (a b : Option (ℕ × ℕ)) → IsFirstEnd n phrases text a → IsFirstEnd n phrases text b → a ≡ b
only_one n phrases text None None f g = refl
only_one n phrases text None (Some b) f g = absurd (f b g.0)
only_one n phrases text (Some a) None f g = absurd (g a f.0)
only_one n phrases text (Some a) (Some b) f g = ap Some (same_place a b (f.1 b g.0) (g.1 a f.0))

pub is_first_end : (phrases : List (List ℕ)) (text : List ℕ) (a : Option (ℕ × ℕ)) → IsFirstEnd (length phrases) phrases text a → a ≡ first_end phrases text
is_first_end phrases text a f = only_one (length phrases) phrases text a (first_end phrases text) f (first_end_is phrases text)
