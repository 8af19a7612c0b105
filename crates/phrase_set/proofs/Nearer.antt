-- A search in one pass, each time among the occurrences that end before the best so far.
use Rattle.std.proofs.Common.{◌≡◌, ℕ, zero, suc, ◌+◌, ◌<◌, ◌≤◌, inl, inr, List, [], ◌∷◌, length, get_or, take, Option, Some, None, refl, sym, ap, ◌∙◌, subst, arith, length-take}
use Rattle.std.proofs.lemmas.Bool.{cases_lt}
use Rattle.std.proofs.lemmas.List.{get_or-take}
use Rattle.memchr.specs.Find.{OccursAt}
use Rattle.regex_literal.specs.Find.{OccursAt as StandsAt, AnyOccursAt, Nowhere, NoneBefore, FirstNeedleAt}
use Rattle.phrase_set.specs.Phrases.{Occurs, IsFirstEnd}

-- where the search goes on in the first m bytes of a text, the best so far ends one byte after them, and no occurrence that ends there or before begins before it
abbrev pub IsBest : List (List ℕ) → List ℕ → ℕ → Option (ℕ × ℕ) → Type 0
IsBest phrases text m None = m ≡ length text
IsBest phrases text m (Some best) =
    Occurs (length phrases) phrases text best × (m + 1 ≡ best.1)
    × ((place : ℕ × ℕ) → Occurs (length phrases) phrases text place → place.1 ≤ best.1 → best.0 ≤ place.0)

kept : (text needle : List ℕ) (m k : ℕ) → OccursAt text needle k → k + length needle ≤ m → StandsAt (take m text) needle k
kept text needle m k o below = record {
  fits = omega (arith, length-take m text, o.fits, below);
  reads = λ j low. (let under : k + j < m = omega (arith, low, below) in get_or-take m text (k + j) 0 under ∙ o.reads j low);
}

back : (text needle : List ℕ) (m k : ℕ) → StandsAt (take m text) needle k → OccursAt text needle k
back text needle m k o = record {
  fits = omega (arith, length-take m text, o.fits);
  reads = λ j low. (let under : k + j < m = omega (arith, low, length-take m text, o.fits) in sym (get_or-take m text (k + j) 0 under) ∙ o.reads j low);
}

widened : (text needle : List ℕ) (m k : ℕ) → StandsAt (take m text) needle k → StandsAt text needle k
widened text needle m k o = let wide = back text needle m k o in record { fits = wide.fits; reads = wide.reads }

-- an occurrence that ends within the front of a text stands in that front
stands_in : (phrases : List (List ℕ)) (text front : List ℕ) (place : ℕ × ℕ) → front ≡ take (length front) text → Occurs (length phrases) phrases text place → place.1 ≤ length front → AnyOccursAt front phrases place.0
stands_in phrases text front place e o below =
    let there : StandsAt (take (length front) text) (get_or phrases o.which []) place.0 = kept text (get_or phrases o.which []) (length front) place.0 o.stands (omega (arith, o.ends, below)) in
    (o.which, o.among, subst (λ (l : List ℕ). StandsAt l (get_or phrases o.which []) place.0) (sym e) there)

-- where nothing is found there is none
none_in : (phrases : List (List ℕ)) (text front : List ℕ) (from : ℕ) (place : ℕ × ℕ) → front ≡ take (length front) text → Nowhere (AnyOccursAt front phrases) 0 from → Nowhere (AnyOccursAt front phrases) from (length front + 1)
    → Occurs (length phrases) phrases text place → place.1 ≤ length front → ⊥
none_in phrases text front from place e none after o below =
    let a = stands_in phrases text front place e o below in
    elim (cases_lt place.0 from) [
      | inl low ↦ none place.0 (omega arith) low a
      | inr past ↦ after place.0 past (omega (arith, o.ends, below)) a
    ]

pub missed : (phrases : List (List ℕ)) (text front : List ℕ) (from : ℕ) (best : Option (ℕ × ℕ)) → front ≡ take (length front) text → Nowhere (AnyOccursAt front phrases) 0 from → Nowhere (AnyOccursAt front phrases) from (length front + 1)
    → IsBest phrases text (length front) best → IsFirstEnd (length phrases) phrases text best
missed phrases text front from None e none after whole = λ place o.
    none_in phrases text front from place e none after o (omega (arith, o.ends, o.stands.fits, whole))
missed phrases text front from (Some best) e none after is = (
  is.0,
  λ place o. record {
    no_later = (elim (cases_lt place.1 best.1) [
      | inl sooner ↦ absurd (none_in phrases text front from place e none after o (omega (arith, sooner, is.1)))
      | inr past ↦ past
    ]);
    no_shorter = λ same. is.2 place o (omega (arith, same));
  },
)

-- nothing stands before the place that was found
none_before : (phrases : List (List ℕ)) (front : List ℕ) (from at k : ℕ) → Nowhere (AnyOccursAt front phrases) 0 from → NoneBefore (AnyOccursAt front phrases) from (length front + 1) at → k < at → AnyOccursAt front phrases k → ⊥
none_before phrases front from at k none first below a = elim (cases_lt k from) [
  | inl low ↦ none k (omega arith) low a
  | inr past ↦ first.before k past below a
]

pub none_nearer : (phrases : List (List ℕ)) (front : List ℕ) (from at m : ℕ) → Nowhere (AnyOccursAt front phrases) 0 from → NoneBefore (AnyOccursAt front phrases) from (length front + 1) at → Nowhere (AnyOccursAt (take m front) phrases) 0 at
none_nearer phrases front from at m none first = λ k low below a.
    none_before phrases front from at k none first below (a.0, a.1, widened front (get_or phrases a.0 []) m k a.2)

pub none_passed : (phrases : List (List ℕ)) (front : List ℕ) (from at : ℕ) → Nowhere (AnyOccursAt front phrases) 0 from → NoneBefore (AnyOccursAt front phrases) from (length front + 1) at → Nowhere (AnyOccursAt front phrases) 0 at
none_passed phrases front from at none first = λ k low below a. none_before phrases front from at k none first below a

take_twice : (m n : ℕ) (xs : List ℕ) → m ≤ n → take m (take n xs) ≡ take m xs
take_twice zero n xs le = refl
take_twice (suc m) zero xs le = absurd (omega arith)
take_twice (suc m) (suc n) [] le = refl
take_twice (suc m) (suc n) (x ∷ xs) le = ap (λ (l : List ℕ). x ∷ l) (take_twice m n xs (omega (arith, le)))

pub nearer : (text front : List ℕ) (m : ℕ) → front ≡ take (length front) text → m ≤ length front → take m front ≡ take (length (take m front)) text
nearer text front m e below =
    let long : length (take m front) ≡ m = omega (arith, length-take m front, below) in
    ap (take m) e ∙ take_twice m (length front) text below ∙ ap (λ (n : ℕ). take n text) (sym long)

pub found : (phrases : List (List ℕ)) (text front : List ℕ) (from at which end m : ℕ) → front ≡ take (length front) text → Nowhere (AnyOccursAt front phrases) 0 from → NoneBefore (AnyOccursAt front phrases) from (length front + 1) at
    → FirstNeedleAt front phrases at which → end ≡ at + length (get_or phrases which []) → m + 1 ≡ end → IsBest phrases text m (Some (at, end))
found phrases text front from at which end m e none first f end_is m_is =
    let needle = get_or phrases which [] in
    let here : StandsAt (take (length front) text) needle at = subst (λ (l : List ℕ). StandsAt l needle at) e f.occurs in (
      record { which = which; among = f.within; stands = back text needle (length front) at here; ends = end_is },
      m_is,
      λ place o below. (elim (cases_lt place.0 at) [
        | inl sooner ↦ absurd (none_before phrases front from at place.0 none first sooner (stands_in phrases text front place e o (omega (arith, below, end_is, f.occurs.fits))))
        | inr past ↦ past
      ]),
    )
