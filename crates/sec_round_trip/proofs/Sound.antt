-- Words that can be printed: whole characters, no line feed, and no backslash at the end.
use Rattle.std.proofs.Common.{◌≡◌, ℕ, zero, suc, Bool, true, false, List, [], ◌∷◌, ◌++◌, drop, refl, sym, ap, ◌∙◌, append-nil, arith}
use Rattle.std.specs.Prelude.{not, ◌&&◌, ◌==◌, nat_le, nat_lt}
use Rattle.std.specs.List.{AllByRecursion, join_with_byte, list_all}
use Rattle.std.proofs.lemmas.Bool.{and_from, and_parts, false≢true, leb-true, lt-ltb, ne_eqb, not-true}
use Rattle.sec_text.specs.Lines.{is_line_feed}
use Rattle.sec_text.specs.Quotes.{is_blank}
use Rattle.sec_text.specs.Written.{ends_with_backslash}
use Rattle.sec_round_trip.specs.Lines.{is_printed}
use Rattle.sec_round_trip.specs.Operators.{begins_with_blank}
use Rattle.sec_round_trip.specs.Targets.{is_empty}
use Rattle.sec_round_trip.proofs.Alike.{ends_behind}
use Rattle.sec_round_trip.proofs.FineTexts.{IsFine, fine_append, fine_byte, fine_nil, fine_printed}

pub record IsSound (text : List ℕ) : Type 0 where
  pub fine : IsFine text
  pub ends : ends_with_backslash text ≡ false

-- and no blank in front
pub record IsClean (text : List ℕ) : Type 0 where
  pub fine : IsFine text
  pub ends : ends_with_backslash text ≡ false
  pub blank : begins_with_blank text ≡ false

pub sound_of : (text : List ℕ) → IsClean text → IsSound text
sound_of text is = record { fine = is.fine; ends = is.ends }

pub clean_nil : IsClean []
clean_nil = record { fine = fine_nil true; ends = refl; blank = refl }

-- ---- parts of such words

pub ends_tail : (b : ℕ) (text : List ℕ) → ends_with_backslash (b ∷ text) ≡ false → ends_with_backslash text ≡ false
ends_tail b [] h = refl
ends_tail b (c ∷ text) h = h

pub ends_drop : (n : ℕ) (text : List ℕ) → ends_with_backslash text ≡ false → ends_with_backslash (drop n text) ≡ false
ends_drop zero text h = h
ends_drop (suc n) [] h = refl
ends_drop (suc n) (b ∷ text) h = ends_drop n text (ends_tail b text h)

pub ends_append : (xs ys : List ℕ) → ends_with_backslash xs ≡ false → ends_with_backslash ys ≡ false → ends_with_backslash (xs ++ ys) ≡ false
ends_append xs [] a b = ap ends_with_backslash (append-nil xs) ∙ a
ends_append xs (y ∷ ys) a b = ends_behind xs (y ∷ ys) refl ∙ b

pub sound_append : (xs ys : List ℕ) → IsSound xs → IsSound ys → IsSound (xs ++ ys)
sound_append xs ys a b = record { fine = fine_append true xs ys a.fine b.fine; ends = ends_append xs ys a.ends b.ends }

-- where the end is some text, that alone is to end well
pub sound_behind : (xs ys : List ℕ) → IsFine xs → is_empty ys ≡ false → IsSound ys → IsSound (xs ++ ys)
sound_behind xs ys a some b = record { fine = fine_append true xs ys a b.fine; ends = ends_behind xs ys some ∙ b.ends }

-- ---- from ! to ~, but the backslash

abbrev pub is_graph : ℕ → Bool
is_graph b = (nat_le 33 b && nat_le b 126) && not (b == 92)

graph_printed : (b : ℕ) → is_graph b ≡ true → is_printed b ≡ true
graph_printed b h =
    let one = and_parts (nat_le 33 b) (nat_le b 126) (and_parts (nat_le 33 b && nat_le b 126) (not (b == 92)) h).0 in
    let low = leb-true 33 b one.0 in
    let high = leb-true b 126 one.1 in
    rw (lt-ltb b 128 (omega (arith, high)), ne_eqb b 10 (λ e. omega (arith, low, e))) refl

graph_no_blank : (b : ℕ) → is_graph b ≡ true → is_blank b ≡ false
graph_no_blank b h =
    let one = and_parts (nat_le 33 b) (nat_le b 126) (and_parts (nat_le 33 b && nat_le b 126) (not (b == 92)) h).0 in
    let low = leb-true 33 b one.0 in
    rw (ne_eqb b 32 (λ e. omega (arith, low, e)), ne_eqb b 9 (λ e. omega (arith, low, e))) refl

graphs_printed : (text : List ℕ) → list_all is_graph text ≡ true → list_all is_printed text ≡ true
graphs_printed [] h = refl
graphs_printed (b ∷ text) h =
    let parts = and_parts (is_graph b) (list_all is_graph text) h in
    and_from (is_printed b) (list_all is_printed text) (graph_printed b parts.0) (graphs_printed text parts.1)

graphs_end : (text : List ℕ) → list_all is_graph text ≡ true → ends_with_backslash text ≡ false
graphs_end [] h = refl
graphs_end (b ∷ []) h = not-true (b == 92) (and_parts (nat_le 33 b && nat_le b 126) (not (b == 92)) (and_parts (is_graph b) true h).0).1
graphs_end (b ∷ c ∷ text) h = graphs_end (c ∷ text) (and_parts (is_graph b) (list_all is_graph (c ∷ text)) h).1

graphs_begin : (text : List ℕ) → list_all is_graph text ≡ true → begins_with_blank text ≡ false
graphs_begin [] h = refl
graphs_begin (b ∷ text) h = graph_no_blank b (and_parts (is_graph b) (list_all is_graph text) h).0

pub graphs_clean : (text : List ℕ) → list_all is_graph text ≡ true → IsClean text
graphs_clean text h = record { fine = fine_printed true text (graphs_printed text h); ends = graphs_end text h; blank = graphs_begin text h }

-- ---- such words in a row

abbrev pub IsGraphWord : List ℕ → Type 0
IsGraphWord word = (is_empty word ≡ false) × (list_all is_graph word ≡ true)

begins_first : (word more : List ℕ) → is_empty word ≡ false → begins_with_blank word ≡ false → begins_with_blank (word ++ more) ≡ false
begins_first [] more some h = absurd (false≢true (sym some))
begins_first (b ∷ word) more some h = h

some_joined : (sep : ℕ) (word : List ℕ) (words : List (List ℕ)) → is_empty word ≡ false → is_empty (join_with_byte sep (word ∷ words)) ≡ false
some_joined sep [] words h = absurd (false≢true (sym h))
some_joined sep (b ∷ word) [] h = refl
some_joined sep (b ∷ word) (next ∷ words) h = refl

pub joined_clean : (sep : ℕ) (words : List (List ℕ)) → is_printed sep ≡ true → AllByRecursion IsGraphWord words → IsClean (join_with_byte sep words)
joined_clean sep [] low are = clean_nil
joined_clean sep (word ∷ []) low are = graphs_clean word are.0.1
joined_clean sep (word ∷ next ∷ words) low are =
    let here : IsClean word = graphs_clean word are.0.1 in
    let rest : IsClean (join_with_byte sep (next ∷ words)) = joined_clean sep (next ∷ words) low are.1 in
    let parts = and_parts (nat_lt sep 128) (not (is_line_feed sep)) low in
    let one : IsFine (sep ∷ []) = fine_byte true sep parts.0 (not-true (is_line_feed sep) parts.1) in
    record {
      fine = fine_append true word (sep ∷ join_with_byte sep (next ∷ words)) here.fine (fine_append true (sep ∷ []) (join_with_byte sep (next ∷ words)) one rest.fine);
      ends = ends_behind word (sep ∷ join_with_byte sep (next ∷ words)) refl ∙ (ends_behind (sep ∷ []) (join_with_byte sep (next ∷ words)) (some_joined sep next words are.1.0.0) ∙ rest.ends);
      blank = begins_first word (sep ∷ join_with_byte sep (next ∷ words)) are.0.0 here.blank;
    }

-- ---- other words in a row

pub joined_sound : (sep : ℕ) (words : List (List ℕ)) → list_all is_graph (sep ∷ []) ≡ true → AllByRecursion IsSound words → IsSound (join_with_byte sep words)
joined_sound sep [] mark are = sound_of [] clean_nil
joined_sound sep (word ∷ []) mark are = are.0
joined_sound sep (word ∷ next ∷ words) mark are =
    sound_append word (sep ∷ join_with_byte sep (next ∷ words)) are.0
    (sound_append (sep ∷ []) (join_with_byte sep (next ∷ words)) (sound_of (sep ∷ []) (graphs_clean (sep ∷ []) mark)) (joined_sound sep (next ∷ words) mark are.1))
