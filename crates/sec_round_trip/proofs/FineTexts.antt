-- Texts of whole characters (UTF-8) without a line feed: what stands before an ASCII byte is one, and so is what begins
-- there or behind it.
use Rattle.std.proofs.Common.{◌≡◌, ℕ, zero, suc, ◌-◌, ◌<◌, ◌≤◌, Bool, true, false, cond, List, [], ◌∷◌, ◌++◌, length, get_or, take, drop, drop-cons, reverse, Option, Some, None, refl, sym, ap, ◌∙◌, arith, append-nil, append_assoc, length-append, subst, inl, inr}
use Rattle.std.specs.Prelude.{not, ◌&&◌, ◌||◌, ◌==◌, nat_lt}
use Rattle.std.specs.List.{list_all, position_or_len, prefix_len, suffix_len}
use Rattle.std.specs.Str.{IsAscii, IsUtf8}
use Rattle.std.proofs.lemmas.Bool.{and_from, and_parts, cases_Bool, cases_lt, eqb-true, lt-ltb, ltb-true, not-true, or_cases}
use Rattle.std.proofs.lemmas.List.{drop_all, get_or-reverse, length-reverse, take-append-drop}
use Rattle.std.proofs.lemmas.List.Sums.{prefix_len_passes, prefix_len_stops}
use Rattle.std.proofs.lemmas.Str.{IsCharBoundary-after_ascii, IsCharBoundary-before_ascii, IsUtf8-append, IsUtf8-drop, IsUtf8-from_ascii, IsUtf8-nil, IsUtf8-take}
use Rattle.std.proofs.Math.Seq.{drop-append_seam, get_or-append_seam, take-append_seam}
use Rattle.sec_ast.specs.PrintTexts.{escaped}
use Rattle.sec_text.specs.Lines.{is_line_feed}
use Rattle.sec_text.specs.Quotes.{behind, is_blank, quoted}
use Rattle.sec_round_trip.specs.Directives.{has_no_feed}
use Rattle.sec_round_trip.specs.Lines.{is_printed}
use Rattle.sec_round_trip.proofs.Names.{more_prefix, no_prefix}
use Rattle.sec_round_trip.proofs.Places.{here, one_more}

pub record IsFine (text : List ℕ) : Type 0 where
  pub utf8 : IsUtf8 text
  pub feed : has_no_feed text ≡ true
  pub bytes : list_all (λ b. nat_lt b 256) text ≡ true

whole_nil : IsFine []
whole_nil = record { utf8 = IsUtf8-nil; feed = refl; bytes = refl }

-- ---- one behind the other

pub feed_append : (xs ys : List ℕ) → has_no_feed xs ≡ true → has_no_feed ys ≡ true → has_no_feed (xs ++ ys) ≡ true
feed_append [] ys a b = b
feed_append (x ∷ xs) ys a b =
    let parts = and_parts (not (is_line_feed x)) (has_no_feed xs) a in
    and_from (not (is_line_feed x)) (has_no_feed (xs ++ ys)) parts.0 (feed_append xs ys parts.1 b)

feed_parts : (xs ys : List ℕ) → has_no_feed (xs ++ ys) ≡ true → (has_no_feed xs ≡ true) × (has_no_feed ys ≡ true)
feed_parts [] ys h = (refl, h)
feed_parts (x ∷ xs) ys h =
    let parts = and_parts (not (is_line_feed x)) (has_no_feed (xs ++ ys)) h in
    let rest = feed_parts xs ys parts.1 in
    (and_from (not (is_line_feed x)) (has_no_feed xs) parts.0 rest.0, rest.1)

pub all_append : (p : ℕ → Bool) (xs ys : List ℕ) → list_all p xs ≡ true → list_all p ys ≡ true → list_all p (xs ++ ys) ≡ true
all_append p [] ys a b = b
all_append p (x ∷ xs) ys a b =
    let parts = and_parts (p x) (list_all p xs) a in and_from (p x) (list_all p (xs ++ ys)) parts.0 (all_append p xs ys parts.1 b)

pub all_parts : (p : ℕ → Bool) (xs ys : List ℕ) → list_all p (xs ++ ys) ≡ true → (list_all p xs ≡ true) × (list_all p ys ≡ true)
all_parts p [] ys h = (refl, h)
all_parts p (x ∷ xs) ys h =
    let parts = and_parts (p x) (list_all p (xs ++ ys)) h in
    let rest = all_parts p xs ys parts.1 in (and_from (p x) (list_all p xs) parts.0 rest.0, rest.1)

whole_append : (xs ys : List ℕ) → IsFine xs → IsFine ys → IsFine (xs ++ ys)
whole_append xs ys a b = record { utf8 = IsUtf8-append xs ys a.utf8 b.utf8; feed = feed_append xs ys a.feed b.feed; bytes = all_append (λ b. nat_lt b 256) xs ys a.bytes b.bytes }

-- ---- cut at an ASCII byte, or at the end

abbrev pub begins_ascii : List ℕ → Bool
begins_ascii [] = true
begins_ascii (b ∷ rest) = nat_lt b 128

within : (xs : List ℕ) (b : ℕ) (ys : List ℕ) → length xs < length (xs ++ b ∷ ys)
within xs b ys = omega (arith, length-append xs (b ∷ ys))

pub utf8_before : (xs ys : List ℕ) → begins_ascii ys ≡ true → IsUtf8 (xs ++ ys) → IsUtf8 xs
utf8_before xs [] low h = subst IsUtf8 (append-nil xs) h
utf8_before xs (b ∷ ys) low h =
    let small : get_or (xs ++ b ∷ ys) (length xs) 0 < 128 = subst (λ n. n < 128) (sym (get_or-append_seam xs b ys 0)) (ltb-true b 128 low) in
    subst IsUtf8 (take-append_seam xs (b ∷ ys)) (IsUtf8-take (xs ++ b ∷ ys) (length xs) h (IsCharBoundary-before_ascii (xs ++ b ∷ ys) (length xs) (within xs b ys) small))

pub utf8_at : (xs ys : List ℕ) → begins_ascii ys ≡ true → IsUtf8 (xs ++ ys) → IsUtf8 ys
utf8_at xs [] low h = IsUtf8-nil
utf8_at xs (b ∷ ys) low h =
    let small : get_or (xs ++ b ∷ ys) (length xs) 0 < 128 = subst (λ n. n < 128) (sym (get_or-append_seam xs b ys 0)) (ltb-true b 128 low) in
    subst IsUtf8 (drop-append_seam xs (b ∷ ys)) (IsUtf8-drop (xs ++ b ∷ ys) (length xs) h (IsCharBoundary-before_ascii (xs ++ b ∷ ys) (length xs) (within xs b ys) small))

whole_before : (xs ys : List ℕ) → begins_ascii ys ≡ true → IsFine (xs ++ ys) → IsFine xs
whole_before xs ys low h = record { utf8 = utf8_before xs ys low h.utf8; feed = (feed_parts xs ys h.feed).0; bytes = (all_parts (λ b. nat_lt b 256) xs ys h.bytes).0 }

whole_at : (xs ys : List ℕ) → begins_ascii ys ≡ true → IsFine (xs ++ ys) → IsFine ys
whole_at xs ys low h = record { utf8 = utf8_at xs ys low h.utf8; feed = (feed_parts xs ys h.feed).1; bytes = (all_parts (λ b. nat_lt b 256) xs ys h.bytes).1 }

pub utf8_behind : (b : ℕ) (rest : List ℕ) → nat_lt b 128 ≡ true → IsUtf8 (b ∷ rest) → IsUtf8 rest
utf8_behind b rest low h = IsUtf8-drop (b ∷ rest) 1 h (IsCharBoundary-after_ascii (b ∷ rest) 0 h (omega arith) (ltb-true b 128 low))

whole_behind : (b : ℕ) (rest : List ℕ) → nat_lt b 128 ≡ true → IsFine (b ∷ rest) → IsFine rest
whole_behind b rest low h = record {
  utf8 = utf8_behind b rest low h.utf8;
  feed = (feed_parts (b ∷ []) rest h.feed).1;
  bytes = (all_parts (λ b. nat_lt b 256) (b ∷ []) rest h.bytes).1;
}

-- ---- one byte

pub one_ascii : (b : ℕ) → b < 128 → IsAscii (b ∷ [])
one_ascii b low zero = low
one_ascii b low (suc i) = omega arith

byte_small : (b : ℕ) → b < 128 → nat_lt b 256 ≡ true
byte_small b low = lt-ltb b 256 (omega (arith, low))

whole_byte : (b : ℕ) → nat_lt b 128 ≡ true → is_line_feed b ≡ false → IsFine (b ∷ [])
whole_byte b low other = record {
  utf8 = IsUtf8-from_ascii (b ∷ []) (one_ascii b (ltb-true b 128 low));
  feed = rw other refl;
  bytes = rw (byte_small b (ltb-true b 128 low)) refl;
}

feed_first : (b : ℕ) (rest : List ℕ) → IsFine (b ∷ rest) → is_line_feed b ≡ false
feed_first b rest h = not-true (is_line_feed b) (and_parts (not (is_line_feed b)) (has_no_feed rest) h.feed).0

whole_first : (b : ℕ) (rest : List ℕ) → nat_lt b 128 ≡ true → IsFine (b ∷ rest) → IsFine (b ∷ [])
whole_first b rest low h = whole_byte b low (feed_first b rest h)

-- ---- the same, where it is asked for

abbrev pub FineIf : Bool → List ℕ → Type 0
FineIf true text = IsFine text
FineIf false text = Unit {0}

pub fine_nil : (k : Bool) → FineIf k []
fine_nil true = whole_nil
fine_nil false = tt

pub fine_append : (k : Bool) (xs ys : List ℕ) → FineIf k xs → FineIf k ys → FineIf k (xs ++ ys)
fine_append true xs ys a b = whole_append xs ys a b
fine_append false xs ys a b = tt

pub fine_before : (k : Bool) (xs ys : List ℕ) → begins_ascii ys ≡ true → FineIf k (xs ++ ys) → FineIf k xs
fine_before true xs ys low h = whole_before xs ys low h
fine_before false xs ys low h = tt

pub fine_at : (k : Bool) (xs ys : List ℕ) → begins_ascii ys ≡ true → FineIf k (xs ++ ys) → FineIf k ys
fine_at true xs ys low h = whole_at xs ys low h
fine_at false xs ys low h = tt

pub fine_behind : (k : Bool) (b : ℕ) (rest : List ℕ) → nat_lt b 128 ≡ true → FineIf k (b ∷ rest) → FineIf k rest
fine_behind true b rest low h = whole_behind b rest low h
fine_behind false b rest low h = tt

pub fine_byte : (k : Bool) (b : ℕ) → nat_lt b 128 ≡ true → is_line_feed b ≡ false → FineIf k (b ∷ [])
fine_byte true b low other = whole_byte b low other
fine_byte false b low other = tt

pub fine_first : (k : Bool) (b : ℕ) (rest : List ℕ) → nat_lt b 128 ≡ true → FineIf k (b ∷ rest) → FineIf k (b ∷ [])
fine_first true b rest low h = whole_first b rest low h
fine_first false b rest low h = tt

-- texts of ASCII bytes but the line feed
pub fine_printed : (k : Bool) (text : List ℕ) → list_all is_printed text ≡ true → FineIf k text
fine_printed k [] h = fine_nil k
fine_printed k (b ∷ text) h =
    let parts = and_parts (is_printed b) (list_all is_printed text) h in
    let one = and_parts (nat_lt b 128) (not (is_line_feed b)) parts.0 in
    fine_append k (b ∷ []) text (fine_byte k b one.0 (not-true (is_line_feed b) one.1)) (fine_printed k text parts.1)

-- only ASCII bytes pass this test
abbrev pub IsLow : (ℕ → Bool) → Type 0
IsLow p = (b : ℕ) → p b ≡ true → nat_lt b 128 ≡ true

pub low_byte : (c : ℕ) → nat_lt c 128 ≡ true → IsLow (λ b. b == c)
low_byte c low b is = ap (λ n. nat_lt n 128) (eqb-true b c is) ∙ low

pub low_two : (c d : ℕ) → nat_lt c 128 ≡ true → nat_lt d 128 ≡ true → IsLow (λ b. (b == c) || (b == d))
low_two c d low-c low-d b is = elim (or_cases (b == c) (b == d) is) [
  | inl one ↦ low_byte c low-c b one
  | inr other ↦ low_byte d low-d b other
]

pub blank_low : IsLow is_blank
blank_low = low_two 32 9 refl refl

-- ---- places of bytes

pub low_at : (p : ℕ → Bool) → IsLow p → (text : List ℕ) → begins_ascii (drop (position_or_len p text) text) ≡ true
low_at p low [] = refl
low_at p low (b ∷ text) = elim (cases_Bool (p b)) [
  | inl is ↦ subst (λ n. begins_ascii (drop n (b ∷ text)) ≡ true) (sym (here p b text is)) (low b is)
  | inr not_is ↦ subst (λ n. begins_ascii (drop n (b ∷ text)) ≡ true) (sym (one_more p b text not_is)) (low_at p low text)
]

-- the bytes of the longest such end pass
pub end_passes : (p : ℕ → Bool) (text : List ℕ) (k : ℕ) → length text - suffix_len p text ≤ k → k < length text → p (get_or text k 0) ≡ true
end_passes p text k low high =
    let back : ℕ = length text - 1 - k in
    let long = length-reverse text in
    let here : p (get_or (reverse text) back 0) ≡ true = prefix_len_passes p (reverse text) back 0 (omega (arith, low, high)) in
    let place : length text - 1 - back ≡ k = omega (arith, high) in
    ap p (sym (get_or-reverse text back 0 (omega (arith, high)) ∙ ap (λ n. get_or text n 0) place)) ∙ here

-- and the one before them does not
pub end_stops : (p : ℕ → Bool) (text : List ℕ) → 0 < length text - suffix_len p text → p (get_or text (length text - suffix_len p text - 1) 0) ≡ false
end_stops p text some =
    let back : ℕ = suffix_len p text in
    let long = length-reverse text in
    let here : p (get_or (reverse text) back 0) ≡ false = prefix_len_stops p (reverse text) 0 (omega (arith, some, long)) in
    let place : length text - 1 - back ≡ length text - suffix_len p text - 1 = omega (arith, some) in
    ap p (sym (get_or-reverse text back 0 (omega (arith, some)) ∙ ap (λ n. get_or text n 0) place)) ∙ here

low_end : (p : ℕ → Bool) → IsLow p → (text : List ℕ) → begins_ascii (drop (length text - suffix_len p text) text) ≡ true
low_end p low text =
    let n : ℕ = length text - suffix_len p text in
    elim (cases_lt n (length text)) [
      | inl lt ↦
          let is : p (get_or text n 0) ≡ true = end_passes p text n (omega arith) lt in
          subst (λ (l : List ℕ). begins_ascii l ≡ true) (sym (drop-cons text n 0 lt)) (low (get_or text n 0) is)
      | inr end ↦ subst (λ (l : List ℕ). begins_ascii l ≡ true) (sym (drop_all n text end)) refl
    ]

-- ---- parts of a text

module _ (k : Bool) where
  -- as take and drop

  pub fine_take : (n : ℕ) (text : List ℕ) → begins_ascii (drop n text) ≡ true → FineIf k text → FineIf k (take n text)
  fine_take n text low h = fine_before k (take n text) (drop n text) low (subst (FineIf k) (sym (take-append-drop n text)) h)

  pub fine_drop : (n : ℕ) (text : List ℕ) → begins_ascii (drop n text) ≡ true → FineIf k text → FineIf k (drop n text)
  fine_drop n text low h = fine_at k (take n text) (drop n text) low (subst (FineIf k) (sym (take-append-drop n text)) h)

  -- before the first byte that passes, and from it on
  pub fine_to : (p : ℕ → Bool) → IsLow p → (text : List ℕ) → FineIf k text → FineIf k (take (position_or_len p text) text)
  fine_to p low text h = fine_take (position_or_len p text) text (low_at p low text) h

  pub fine_from : (p : ℕ → Bool) → IsLow p → (text : List ℕ) → FineIf k text → FineIf k (drop (position_or_len p text) text)
  fine_from p low text h = fine_drop (position_or_len p text) text (low_at p low text) h

  pub fine_skip : (p : ℕ → Bool) → IsLow p → (text : List ℕ) → FineIf k text → FineIf k (drop (prefix_len p text) text)
  fine_skip p low [] h = h
  fine_skip p low (b ∷ text) h = elim (cases_Bool (p b)) [
    | inl is ↦ subst (λ n. FineIf k (drop n (b ∷ text))) (sym (more_prefix p b text is)) (fine_skip p low text (fine_behind k b text (low b is) h))
    | inr not_is ↦ subst (λ n. FineIf k (drop n (b ∷ text))) (sym (no_prefix p b text not_is)) h
  ]

  pub fine_end : (p : ℕ → Bool) → IsLow p → (text : List ℕ) → FineIf k text → FineIf k (take (length text - suffix_len p text) text)
  fine_end p low text h = fine_take (length text - suffix_len p text) text (low_end p low text) h

  -- in quotes

  abbrev pub FineQuoted : List ℕ → Option (List ℕ × List ℕ) → Type 0
  FineQuoted done None = Unit {0}
  FineQuoted done (Some x) = FineIf k (done ++ x.0) × FineIf k x.1

  quoted_behind : (done : List ℕ) (b : ℕ) (o : Option (List ℕ × List ℕ)) → FineQuoted (done ++ b ∷ []) o → FineQuoted done (behind b o)
  quoted_behind done b None h = tt
  quoted_behind done b (Some x) h = (subst (FineIf k) (append_assoc done (b ∷ []) x.0) h.0, h.1)

  module _ (quote : ℕ) (low : nat_lt quote 128 ≡ true) where
    closes : (done : List ℕ) (a : ℕ) (rest : List ℕ) → (a == quote) ≡ true → FineIf k (done ++ a ∷ rest) → FineIf k (done ++ []) × FineIf k rest
    closes done a rest is h =
        let small : nat_lt a 128 ≡ true = ap (λ n. nat_lt n 128) (eqb-true a quote is) ∙ low in
        (subst (FineIf k) (sym (append-nil done)) (fine_before k done (a ∷ rest) small h), fine_behind k a rest small (fine_at k done (a ∷ rest) small h))

    one_left : (done : List ℕ) (a : ℕ) (p : Bool) → (a == quote) ≡ p → FineIf k (done ++ a ∷ []) → FineQuoted done (cond p (Some ([], [])) None)
    one_left done a true is h = closes done a [] is h
    one_left done a false is h = tt

    escape : (done : List ℕ) (a b : ℕ) (rest : List ℕ) → (a == 92) ≡ true → (b == quote) ≡ true → FineIf k (done ++ a ∷ b ∷ rest) → FineIf k ((done ++ quote ∷ []) ++ rest)
    escape done a b rest is-a is-b h =
        let same : b ≡ quote = eqb-true b quote is-b in
        let small-a : nat_lt a 128 ≡ true = ap (λ n. nat_lt n 128) (eqb-true a 92 is-a) in
        let small-b : nat_lt b 128 ≡ true = ap (λ n. nat_lt n 128) same ∙ low in
        let from_b : FineIf k (b ∷ rest) = fine_behind k a (b ∷ rest) small-a (fine_at k done (a ∷ b ∷ rest) small-a h) in
        let one : FineIf k (quote ∷ []) = subst (λ n. FineIf k (n ∷ [])) same (fine_first k b rest small-b from_b) in
        fine_append k (done ++ quote ∷ []) rest (fine_append k done (quote ∷ []) (fine_before k done (a ∷ b ∷ rest) small-a h) one) (fine_behind k b rest small-b from_b)

    two_left : (done : List ℕ) (a b : ℕ) (rest : List ℕ) (p q r : Bool) → (a == quote) ≡ p → (a == 92) ≡ q → (b == quote) ≡ r → FineIf k (done ++ a ∷ b ∷ rest)
        → (FineIf k ((done ++ quote ∷ []) ++ rest) → FineQuoted (done ++ quote ∷ []) (quoted quote rest)) → (FineIf k ((done ++ a ∷ []) ++ b ∷ rest) → FineQuoted (done ++ a ∷ []) (quoted quote (b ∷ rest)))
        → FineQuoted done (cond p (Some ([], b ∷ rest)) (cond (q && r) (behind quote (quoted quote rest)) (behind a (quoted quote (b ∷ rest)))))
    two_left done a b rest true q r is is-q is-r h skip next = closes done a (b ∷ rest) is h
    two_left done a b rest false true true is is-q is-r h skip next = quoted_behind done quote (quoted quote rest) (skip (escape done a b rest is-q is-r h))
    two_left done a b rest false true false is is-q is-r h skip next = quoted_behind done a (quoted quote (b ∷ rest)) (next (subst (FineIf k) (sym (append_assoc done (a ∷ []) (b ∷ rest))) h))
    two_left done a b rest false false r is is-q is-r h skip next = quoted_behind done a (quoted quote (b ∷ rest)) (next (subst (FineIf k) (sym (append_assoc done (a ∷ []) (b ∷ rest))) h))

    pub quoted_from : (done bytes : List ℕ) → FineIf k (done ++ bytes) → FineQuoted done (quoted quote bytes)
    quoted_from done [] h = tt
    quoted_from done (a ∷ []) h = one_left done a (a == quote) refl h
    quoted_from done (a ∷ b ∷ rest) h =
        two_left done a b rest (a == quote) (a == 92) (b == quote) refl refl refl h (quoted_from (done ++ quote ∷ []) rest) (quoted_from (done ++ a ∷ []) (b ∷ rest))

  -- with a mark before each quote
  module _ (quote : ℕ) (printed : is_printed quote ≡ true) where
    escaped_from : (done text : List ℕ) → FineIf k (done ++ text) → FineIf k (done ++ escaped quote text)
    escaped_from done [] h = h
    escaped_from done (b ∷ text) h = elim (cases_Bool (b == quote)) [
      | inl is ↦
          let low : nat_lt b 128 ≡ true = ap (λ n. nat_lt n 128) (eqb-true b quote is) ∙ (and_parts (nat_lt quote 128) (not (is_line_feed quote)) printed).0 in
          let rest : FineIf k text = fine_behind k b text low (fine_at k done (b ∷ text) low h) in
          let one : FineIf k (b ∷ []) = fine_first k b text low (fine_at k done (b ∷ text) low h) in
          let front : FineIf k (done ++ 92 ∷ b ∷ []) = fine_append k done (92 ∷ b ∷ []) (fine_before k done (b ∷ text) low h) (fine_append k (92 ∷ []) (b ∷ []) (fine_byte k 92 refl refl) one) in
          rw is (subst (FineIf k) (append_assoc done (92 ∷ b ∷ []) (escaped quote text)) (escaped_from (done ++ 92 ∷ b ∷ []) text (fine_append k (done ++ 92 ∷ b ∷ []) text front rest)))
      | inr not_is ↦ rw not_is (subst (FineIf k) (append_assoc done (b ∷ []) (escaped quote text)) (escaped_from (done ++ b ∷ []) text (subst (FineIf k) (sym (append_assoc done (b ∷ []) text)) h)))
    ]

    pub fine_escaped : (text : List ℕ) → FineIf k text → FineIf k (escaped quote text)
    fine_escaped text h = escaped_from [] text h
