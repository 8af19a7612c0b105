-- One phrase more.
use Rattle.std.proofs.Common.{◌≡◌, ℕ, zero, suc, ◌+◌, ◌<◌, ◌≤◌, ◌⊎◌, inl, inr, List, [], ◌∷◌, length, get_or, Option, Some, None, refl, sym, subst, arith}
use Rattle.std.specs.Prelude.{IfSome}
use Rattle.std.proofs.lemmas.Bool.{cases_lt}
use Rattle.memchr.specs.Find.{OccursAt, FindsNeedle}
use Rattle.std.proofs.Common.{◌++◌, take}
use Rattle.std.specs.List.{fold}
use Rattle.std.proofs.lemmas.List.{take_more}
use Rattle.phrase_set.specs.Phrases.{Occurs, NotBehind, IsFirstEnd, IsEarlier, better, span_of, first_end}

-- an occurrence of the first n + 1 phrases is one of the first n, or one of the next
split : (n : ℕ) (phrases : List (List ℕ)) (text : List ℕ) (place : ℕ × ℕ) → Occurs (n + 1) phrases text place
    → Occurs n phrases text place ⊎ (OccursAt text (get_or phrases n []) place.0 × (place.1 ≡ place.0 + length (get_or phrases n [])))
split n phrases text place o = elim (cases_lt o.which n) [
  | inl below ↦ inl record { which = o.which; among = below; stands = o.stands; ends = o.ends }
  | inr past ↦ inr (let e : o.which ≡ n = omega (arith, past, o.among) in
      subst (λ (k : ℕ). OccursAt text (get_or phrases k []) place.0 × (place.1 ≡ place.0 + length (get_or phrases k []))) e (o.stands, o.ends))
]

wider : (n : ℕ) (phrases : List (List ℕ)) (text : List ℕ) (place : ℕ × ℕ) → Occurs n phrases text place → Occurs (n + 1) phrases text place
wider n phrases text place o = record { which = o.which; among = omega (arith, o.among); stands = o.stands; ends = o.ends }

pub behind : (a b d : ℕ × ℕ) → NotBehind a b → NotBehind b d → NotBehind a d
behind a b d one two = record {
  no_later = omega (arith, one.no_later, two.no_later);
  no_shorter = λ e. (let same : a.1 ≡ b.1 = omega (arith, one.no_later, two.no_later, e) in
      let also : b.1 ≡ d.1 = omega (arith, same, e) in
      let x = one.no_shorter same in let y = two.no_shorter also in omega (arith, x, y));
}

pub passed : (n : ℕ) (phrases : List (List ℕ)) (text : List ℕ) (best : Option (ℕ × ℕ)) → IsFirstEnd n phrases text best → FindsNeedle text (get_or phrases n []) 0 None → IsFirstEnd (n + 1) phrases text best
passed n phrases text None first none = λ place o. elim (split n phrases text place o) [
  | inl old ↦ first place old
  | inr new ↦ none place.0 (omega arith) (omega (arith, new.0.fits)) new.0
]
passed n phrases text (Some best) first none = (
  wider n phrases text best first.0,
  λ place o. elim (split n phrases text place o) [
    | inl old ↦ first.1 place old
    | inr new ↦ absurd (none place.0 (omega arith) (omega (arith, new.0.fits)) new.0)
  ],
)

first_stands : (n : ℕ) (phrases : List (List ℕ)) (text : List ℕ) (start : ℕ) (found place : ℕ × ℕ) → FindsNeedle text (get_or phrases n []) 0 (Some start) → found.0 ≡ start → found.1 ≡ start + length (get_or phrases n []) → OccursAt text (get_or phrases n []) place.0 → place.1 ≡ place.0 + length (get_or phrases n []) → NotBehind found place
first_stands n phrases text start found place finds from to stands ends =
    let low : start ≤ place.0 = (elim (cases_lt place.0 start) [
      | inl below ↦ absurd (finds.0.before place.0 (omega arith) below stands)
      | inr past ↦ past
    ]) in
    record { no_later = omega (arith, low, from, to, ends); no_shorter = λ e. omega (arith, low, from, to, ends) }

ends_first : (n : ℕ) (phrases : List (List ℕ)) (text : List ℕ) (best : Option (ℕ × ℕ)) (answer place : ℕ × ℕ) → IsFirstEnd n phrases text best → IfSome best (λ b. NotBehind answer b) → Occurs n phrases text place → NotBehind answer place
ends_first n phrases text None answer place first before o = absurd (first place o)
ends_first n phrases text (Some best) answer place first before o = behind answer best place before (first.1 place o)

pub added : (n : ℕ) (phrases : List (List ℕ)) (text : List ℕ) (best : Option (ℕ × ℕ)) (start : ℕ) (found answer : ℕ × ℕ) → IsFirstEnd n phrases text best → FindsNeedle text (get_or phrases n []) 0 (Some start) → found.0 ≡ start → found.1 ≡ start + length (get_or phrases n []) → IsEarlier best found answer → IsFirstEnd (n + 1) phrases text (Some answer)
added n phrases text best start found answer first finds from to earlier =
    let stands : OccursAt text (get_or phrases n []) found.0 = subst (λ (k : ℕ). OccursAt text (get_or phrases n []) k) (sym from) finds.1 in
    let here : Occurs (n + 1) phrases text found = record { which = n; among = omega arith; stands = stands; ends = omega (arith, from, to) } in
    let is_one : Occurs (n + 1) phrases text answer = (elim earlier.0 [
      | inl e ↦ subst (λ (p : ℕ × ℕ). Occurs (n + 1) phrases text p) (sym e) here
      | inr e ↦ wider n phrases text answer (subst (λ (b : Option (ℕ × ℕ)). IsFirstEnd n phrases text b) e first).0
    ]) in (
      is_one,
      λ place o. elim (split n phrases text place o) [
        | inl old ↦ ends_first n phrases text best answer place first earlier.2 old
        | inr new ↦ behind answer found place earlier.1 (first_stands n phrases text start found place finds from to new.0 new.1)
      ],
    )

pub same_item : {A : Type 0} → (xs : List A) (i : ℕ) (d e : A) → i < length xs → get_or xs i d ≡ get_or xs i e
same_item [] i d e below = absurd (omega arith)
same_item (x ∷ xs) zero d e below = refl
same_item (x ∷ xs) (suc i) d e below = same_item xs i d e (omega arith)

fold_one : {A B : Type 0} → (f : A → B → A) (a : A) (xs : List B) (x : B) → fold f a (xs ++ x ∷ []) ≡ f (fold f a xs) x
fold_one f a [] x = refl
fold_one f a (y ∷ ys) x = fold_one f (f a y) ys x

-- one phrase more in the fold
pub first_end_turn : (phrases : List (List ℕ)) (text : List ℕ) (i : ℕ) (best new : Option (ℕ × ℕ)) (phrase : List ℕ) → i < length phrases → best ≡ first_end (take i phrases) text
    → phrase ≡ get_or phrases i [] → new ≡ better best (span_of text phrase) → new ≡ first_end (take (i + 1) phrases) text
unfolding first_end
first_end_turn phrases text i best new phrase below held item is =
    let more : take (i + 1) phrases ≡ take i phrases ++ get_or phrases i [] ∷ [] = take_more phrases i [] below in
    rw (is, held, item, more) (sym (fold_one (λ (b : Option (ℕ × ℕ)) (p : List ℕ). better b (span_of text p)) None (take i phrases) (get_or phrases i [])))
