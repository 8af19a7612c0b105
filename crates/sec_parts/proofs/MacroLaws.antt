-- Texts and references of macros.
use Rattle.std.proofs.Common.{◌≡◌, ℕ, ◌+◌, ◌-◌, ◌<◌, ◌≤◌, Bool, true, false, eqb, ltb, List, [], ◌∷◌, length, take, drop, refl, sym, ap, subst, ◌∙◌, inl, inr, drop-drop, arith, length-drop}
use Rattle.std.specs.Prelude.{◌&&◌}
use Rattle.std.specs.List.{list_any}
use Rattle.std.specs.Prelude.{◌||◌}
use Rattle.std.proofs.lemmas.Bool.{cases_Bool, cases_lt, eqb-true, lt-ltb, le-ltb}
use Rattle.std.proofs.lemmas.List.{take-append-drop, get_or-drop}
use Rattle.std.proofs.lemmas.List.Folds.{list_any-append, list_any_at}
use Rattle.std.proofs.Common.{get_or}
use Rattle.sec_parts.specs.Texts.{to_byte}
use Rattle.sec_parts.specs.Macros.{EndsAfterLast, is_close, opens, begins_reference, text_len}

text_more_at : (text : List ℕ) → 0 < length text → begins_reference text ≡ false → text_len text ≡ 1 + text_len (drop 1 text)
text_more_at [] lt h = absurd (omega arith)
text_more_at (b ∷ rest) lt h = rw h refl

pub text_more : (text : List ℕ) (count total : ℕ) → count < length text → begins_reference (drop count text) ≡ false → count + text_len (drop count text) ≡ total → count + 1 + text_len (drop (count + 1) text) ≡ total
text_more text count total lt h same =
    let one = text_more_at (drop count text) (omega (arith, length-drop count text)) h in
    let next : drop 1 (drop count text) ≡ drop (count + 1) text = drop-drop 1 count text in
    let two : text_len (drop count text) ≡ 1 + text_len (drop (count + 1) text) = one ∙ ap (λ (l : List ℕ). 1 + text_len l) next in
    omega (arith, two, same)

-- where a reference begins, its } is there
close_within : (rest : List ℕ) → list_any is_close rest ≡ true → to_byte 125 rest < length rest
close_within [] h = absurd cc
close_within (b ∷ rest) h =
    elim (cases_Bool (is_close b)) [
      | inl is ↦ rw is (omega arith)
      | inr not_is ↦
          let later : list_any is_close rest ≡ true = rw not_is at h in
          let n = close_within rest later in
          rw not_is (omega (arith, n))
    ]

record IsLong (text : List ℕ) : Type 0 where
  pub within : to_byte 125 text < length text
  pub behind : 2 ≤ to_byte 125 text

long_two : (a b : ℕ) (rest : List ℕ) (p q : Bool) → eqb a 37 ≡ p → eqb b 123 ≡ q → ((p && q) && list_any is_close (a ∷ b ∷ rest)) ≡ true → IsLong (a ∷ b ∷ rest)
long_two a b rest true true is-a is-b h =
    let there : list_any is_close (37 ∷ 123 ∷ rest) ≡ true = rw (eqb-true a 37 is-a, eqb-true b 123 is-b) at h in
    let n = close_within rest there in
    rw (eqb-true a 37 is-a, eqb-true b 123 is-b) (record { within = omega (arith, n); behind = omega arith })
long_two a b rest true false is-a is-b h = absurd cc
long_two a b rest false q is-a is-b h = absurd cc

long : (text : List ℕ) → begins_reference text ≡ true → IsLong text
long [] h = absurd cc
long (a ∷ []) h = absurd cc
long (a ∷ b ∷ rest) h = long_two a b rest (eqb a 37) (eqb b 123) refl refl h

pub long_within : (text : List ℕ) → begins_reference text ≡ true → to_byte 125 text < length text
long_within text h = (long text h).within

pub long_behind : (text : List ℕ) → begins_reference text ≡ true → 2 ≤ to_byte 125 text
long_behind text h = (long text h).behind

text_first : (b : ℕ) (rest : List ℕ) → begins_reference (b ∷ rest) ≡ false → 0 < text_len (b ∷ rest)
text_first b rest h = rw h (omega arith)

pub some_text : (text : List ℕ) → 0 < length text → begins_reference text ≡ false → 0 < text_len text
some_text [] lt h = absurd (omega arith)
some_text (b ∷ rest) lt h = text_first b rest h

-- what is left of a text has the same end
pub ends_of_rest : (tail count : ℕ) (text rest : List ℕ) → EndsAfterLast tail text → rest ≡ drop count text → EndsAfterLast tail rest
ends_of_rest tail count text rest e same = rw same (record {
  at = λ n. subst (λ (l : List ℕ). list_any is_close l ≡ ltb tail (length l)) (sym (drop-drop n count text)) (e.at (count + n));
})

-- ---- the last }

or_right : (p q : Bool) → (p || q) ≡ false → q ≡ false
or_right true q h = absurd cc
or_right false q h = h

none_behind : (text : List ℕ) (count : ℕ) → list_any is_close text ≡ false → list_any is_close (drop count text) ≡ false
none_behind text count h =
    or_right (list_any is_close (take count text)) (list_any is_close (drop count text))
    (sym (list_any-append is_close (take count text) (drop count text)) ∙ ap (list_any is_close) (take-append-drop count text) ∙ h)

-- no } stands in the last bytes, and one before them if any bytes are there
pub tail_is : (text : List ℕ) (count : ℕ) → count ≤ length text → list_any is_close (drop (length text - count) text) ≡ false
    → (count < length text → is_close (get_or text (length text - count - 1) 0) ≡ true) → EndsAfterLast count text
tail_is text count within none there = record {
  at = λ n.
      elim (cases_lt n (length text - count)) [
        | inl before ↦
            let place = length text - count - 1 - n in
            let same : get_or (drop n text) place 0 ≡ get_or text (length text - count - 1) 0 = get_or-drop n text place 0 ∙ ap (λ (i : ℕ). get_or text i 0) (omega arith) in
            let found : is_close (get_or (drop n text) place 0) ≡ true = ap is_close same ∙ there (omega arith) in
            list_any_at is_close (drop n text) place 0 (omega (arith, length-drop n text)) found ∙ sym (lt-ltb count (length (drop n text)) (omega (arith, length-drop n text)))
        | inr behind ↦
            let more = n - (length text - count) in
            let same : drop more (drop (length text - count) text) ≡ drop n text = drop-drop more (length text - count) text ∙ ap (λ (i : ℕ). drop i text) (omega arith) in
            ap (list_any is_close) (sym same) ∙ none_behind (drop (length text - count) text) more none ∙ sym (le-ltb count (length (drop n text)) (omega (arith, length-drop n text)))
      ];
}

-- with the number of bytes behind the last } one comparison tells a reference
pub reference_by_tail : (tail : ℕ) (text : List ℕ) → EndsAfterLast tail text → true ≡ opens text → ltb tail (length text) ≡ begins_reference text
reference_by_tail tail text e opened =
    let whole : list_any is_close text ≡ ltb tail (length text) = e.at 0 in
    rw (← opened) (sym whole)
