-- The phrases of two lists, one after the other.
use Rattle.std.proofs.Common.{◌≡◌, ℕ, suc, ◌+◌, ◌-◌, ◌<◌, ◌⊎◌, inl, inr, List, [], ◌∷◌, ◌++◌, length, get_or, take, drop, Option, Some, None, sym, ap, ◌∙◌, subst, arith, length-append, append-nil, append_assoc}
use Rattle.std.specs.List.{flat_map}
use Rattle.std.proofs.Math.ListN.{get_or-append}
use Rattle.std.proofs.lemmas.Bool.{cases_lt}
use Rattle.std.proofs.lemmas.Grind.{flat_map-append}
use Rattle.std.proofs.lemmas.List.{take_more, take-append-drop}
use Rattle.memchr.specs.Find.{OccursAt}
use Rattle.phrase_set.specs.Phrases.{Occurs, IsFirstEnd, better, earlier}
use Rattle.phrase_set.proofs.Earliest.{behind}
use Rattle.phrase_set.proofs.PhraseLaw.{earlier_is}

abbrev pub Texts : Type 0
Texts = List (List ℕ)

past_front : (xs ys : Texts) (k : ℕ) (d : List ℕ) → get_or (xs ++ ys) (length xs + k) d ≡ get_or ys k d
past_front [] ys k d = let e : 0 + k ≡ k = omega arith in ap (λ n. get_or ys n d) e
past_front (x ∷ xs) ys k d =
    let e : suc (length xs) + k ≡ suc (length xs + k) = omega arith in
    ap (λ n. get_or (x ∷ (xs ++ ys)) n d) e ∙ past_front xs ys k d

-- an occurrence of the phrases of one list, among those of both
in_first : (a b : Texts) (text : List ℕ) (place : ℕ × ℕ) → Occurs (length a) a text place → Occurs (length (a ++ b)) (a ++ b) text place
in_first a b text place o =
    let same : get_or a o.which [] ≡ get_or (a ++ b) o.which [] = sym (get_or-append a b [] o.which o.among) in
    record {
      which = o.which;
      among = omega (arith, o.among, length-append a b);
      stands = subst (λ (p : List ℕ). OccursAt text p place.0) same o.stands;
      ends = subst (λ (p : List ℕ). place.1 ≡ place.0 + length p) same o.ends;
    }

in_second : (a b : Texts) (text : List ℕ) (place : ℕ × ℕ) → Occurs (length b) b text place → Occurs (length (a ++ b)) (a ++ b) text place
in_second a b text place o =
    let same : get_or b o.which [] ≡ get_or (a ++ b) (length a + o.which) [] = sym (past_front a b o.which []) in
    record {
      which = length a + o.which;
      among = omega (arith, o.among, length-append a b);
      stands = subst (λ (p : List ℕ). OccursAt text p place.0) same o.stands;
      ends = subst (λ (p : List ℕ). place.1 ≡ place.0 + length p) same o.ends;
    }

parted : (a b : Texts) (text : List ℕ) (place : ℕ × ℕ) → Occurs (length (a ++ b)) (a ++ b) text place → Occurs (length a) a text place ⊎ Occurs (length b) b text place
parted a b text place o = elim (cases_lt o.which (length a)) [
  | inl low ↦ inl (let same = get_or-append a b [] o.which low in record {
    which = o.which;
    among = low;
    stands = subst (λ (p : List ℕ). OccursAt text p place.0) same o.stands;
    ends = subst (λ (p : List ℕ). place.1 ≡ place.0 + length p) same o.ends;
  })
  | inr past ↦ inr (let k = o.which - length a in
      let at : o.which ≡ length a + k = omega (arith, past) in
      let same : get_or (a ++ b) o.which [] ≡ get_or b k [] = ap (λ n. get_or (a ++ b) n []) at ∙ past_front a b k [] in
      record {
        which = k;
        among = omega (arith, past, o.among, length-append a b);
        stands = subst (λ (p : List ℕ). OccursAt text p place.0) same o.stands;
        ends = subst (λ (p : List ℕ). place.1 ≡ place.0 + length p) same o.ends;
      })
]

chosen : (a b : Texts) (text : List ℕ) (x y answer : ℕ × ℕ) → Occurs (length a) a text x → Occurs (length b) b text y → (answer ≡ y) ⊎ (Some x ≡ Some answer) → Occurs (length (a ++ b)) (a ++ b) text answer
chosen a b text x y answer one two (inl e) = subst (λ (p : ℕ × ℕ). Occurs (length (a ++ b)) (a ++ b) text p) (sym e) (in_second a b text y two)
chosen a b text x y answer one two (inr e) =
    subst (λ (o : Option (ℕ × ℕ)). some_occurs a b text o) e (in_first a b text x one)
  where
    some_occurs : (a b : Texts) (text : List ℕ) → Option (ℕ × ℕ) → Type 0
    some_occurs a b text None = Unit {0}
    some_occurs a b text (Some p) = Occurs (length (a ++ b)) (a ++ b) text p

-- the better of both answers
pub joined : (a b : Texts) (text : List ℕ) (x y : Option (ℕ × ℕ)) → IsFirstEnd (length a) a text x → IsFirstEnd (length b) b text y → IsFirstEnd (length (a ++ b)) (a ++ b) text (better x y)
joined a b text None None f g = λ place o. elim (parted a b text place o) [
  | inl one ↦ f place one
  | inr two ↦ g place two
]
joined a b text (Some x) None f g = (
  in_first a b text x f.0,
  λ place o. elim (parted a b text place o) [
    | inl one ↦ f.1 place one
    | inr two ↦ absurd (g place two)
  ],
)
joined a b text None (Some y) f g = (
  in_second a b text y g.0,
  λ place o. elim (parted a b text place o) [
    | inl one ↦ absurd (f place one)
    | inr two ↦ g.1 place two
  ],
)
joined a b text (Some x) (Some y) f g =
    let answer = earlier x y in
    let e = earlier_is x y in (
      chosen a b text x y answer f.0 g.0 e.0,
      λ place o. elim (parted a b text place o) [
        | inl one ↦ behind answer x place e.2 (f.1 place one)
        | inr two ↦ behind answer y place e.1 (g.1 place two)
      ],
    )

-- with the phrases of one part more
pub more_parts : {P : Type 0} → (f : P → Texts) (xs : List P) (i : ℕ) (d : P) → i < length xs → flat_map f (take (i + 1) xs) ≡ flat_map f (take i xs) ++ f (get_or xs i d)
more_parts {P} f xs i d below =
    ap (flat_map f) (take_more xs i d below) ∙ flat_map-append f (take i xs) (get_or xs i d ∷ []) ∙ ap (λ (l : Texts). flat_map f (take i xs) ++ l) (append-nil (f (get_or xs i d)))

-- a part more is made of the first phrases that are left
pub added_part : {P : Type 0} → (f : P → Texts) (parts new : List P) (part : P) (rest whole : Texts) (n : ℕ) → flat_map f parts ++ rest ≡ whole → new ≡ parts ++ part ∷ [] → f part ≡ take n rest → flat_map f new ++ drop n rest ≡ whole
added_part {P} f parts new part rest whole n left is fits =
    let done = flat_map f parts in
    let grown : flat_map f new ≡ done ++ take n rest = ap (flat_map f) is ∙ flat_map-append f parts (part ∷ []) ∙ ap (λ (l : Texts). done ++ l) (append-nil (f part) ∙ fits) in
    ap (λ (l : Texts). l ++ drop n rest) grown ∙ append_assoc done (take n rest) (drop n rest) ∙ ap (λ (l : Texts). done ++ l) (take-append-drop n rest) ∙ left
