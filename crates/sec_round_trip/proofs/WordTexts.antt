-- The text of an operator's words is read word by word.
use Rattle.std.proofs.Common.{◌≡◌, ℕ, suc, ◌+◌, ◌*◌, ◌/◌, ◌%◌, ◌<◌, ◌≤◌, Bool, true, false, eqb, List, [], ◌∷◌, ◌++◌, map, length, take, drop, Option, Some, None, Result, Ok, refl, sym, ap, ◌∙◌, append_assoc, append-nil, length-append, arith, inl, inr, subst}
use Rattle.std.specs.Prelude.{not, ◌==◌, nat_lt}
use Rattle.std.specs.List.{AllByRecursion, concat, join_with_byte, list_all, list_any, position_or_len, prefix_len}
use Rattle.std.proofs.lemmas.Bool.{agree_below_at, and_parts, cases_Bool, eqb-true, false≢true, leb-true, ne_eqb, or_parts}
use Rattle.std.proofs.lemmas.Bool as bool
use Rattle.hex.specs.Hex.{decode_of, decode_pairs, hex_digit_value}
use Rattle.sec_ast.specs.PrintOperators.{hex_digit, is_plain, phrase_text}
use Rattle.sec_text.specs.Quotes.{is_blank}
use Rattle.sec_text.specs.Readers.{Takes}
use Rattle.sec_parts.specs.declared.faults.Bad.{Bad}
use Rattle.sec_parts.specs.Phrases.{addresses_of, as_it_is, is_parting, is_range, next_word, phrase, phrase_part, phrases_of, range, ranges_of, up_to_bar, word_here, words_of}
use Rattle.sec_parts.specs.Texts.{to_byte}
use Rattle.sec_round_trip.specs.Operators.{IsAddress, IsPhrase, IsRange}
use Rattle.sec_round_trip.specs.Targets.{is_empty}
use Rattle.sec_round_trip.proofs.Names.{no_prefix, not_false}
use Rattle.sec_round_trip.proofs.Places.{any_append, drop_to, stops, take_to, to_at, to_stop}
use Rattle.sec_round_trip.proofs.Repeats.{repeat_takes}

-- ---- words that are parted by a byte

some_more : (p : ℕ → Bool) (b : ℕ) (text : List ℕ) → p b ≡ true → prefix_len p (b ∷ text) ≡ suc (prefix_len p text)
some_more p b text h = rw h (omega arith)

module _ (parts : ℕ → Bool) (make : List ℕ → Result (List ℕ) Bad) (sep : ℕ) (write : List ℕ → List ℕ) (parted : parts sep ≡ true) where
  pub record IsWritten (word : List ℕ) : Type 0 where
    pub some : is_empty (write word) ≡ false
    pub none : list_any parts (write word) ≡ false
    pub made : make (write word) ≡ Ok word

  here_is : (text rest word : List ℕ) → is_empty text ≡ false → list_any parts text ≡ false → make text ≡ Ok word → stops parts rest ≡ true
      → word_here parts make (text ++ rest) ≡ Ok (Some (word, rest))
  here_is [] rest word some none made end = absurd cc
  here_is (b ∷ text) rest word some none made end =
      let whole : List ℕ = b ∷ (text ++ rest) in
      let long : position_or_len parts whole ≡ length (b ∷ text) = to_stop parts (b ∷ text) rest none end in
      let front : take (position_or_len parts whole) whole ≡ b ∷ text = take_to (position_or_len parts whole) (b ∷ text) rest long in
      let behind : drop (position_or_len parts whole) whole ≡ rest = drop_to (position_or_len parts whole) (b ∷ text) rest long in
      rw (front, behind, made) refl

  no_parting : (text rest : List ℕ) → is_empty text ≡ false → list_any parts text ≡ false → prefix_len parts (text ++ rest) ≡ 0
  no_parting [] rest some none = absurd cc
  no_parting (b ∷ text) rest some none = no_prefix parts b (text ++ rest) (or_parts (parts b) (list_any parts text) none).0

  word_is : (word rest : List ℕ) → IsWritten word → stops parts rest ≡ true → next_word parts make (write word ++ rest) ≡ Ok (Some (word, rest))
  word_is word rest is end =
      ap (λ n. word_here parts make (drop n (write word ++ rest))) (no_parting (write word) rest is.some is.none)
      ∙ here_is (write word) rest word is.some is.none is.made end

  behind_sep : (text : List ℕ) → next_word parts make (sep ∷ text) ≡ next_word parts make text
  behind_sep text = ap (λ n. word_here parts make (drop n (sep ∷ text))) (some_more parts sep text parted)

  -- what stands behind a word
  abbrev tail_of : List (List ℕ) → List ℕ
  tail_of [] = []
  tail_of (word ∷ words) = sep ∷ join_with_byte sep (map write (word ∷ words))

  stops_tail : (words : List (List ℕ)) → stops parts (tail_of words) ≡ true
  stops_tail [] = refl
  stops_tail (word ∷ words) = parted

  joined_is : (word : List ℕ) (words : List (List ℕ)) → join_with_byte sep (map write (word ∷ words)) ≡ write word ++ tail_of words
  joined_is word [] = sym (append-nil (write word))
  joined_is word (next ∷ words) = refl

  first_is : (word : List ℕ) (words : List (List ℕ)) → IsWritten word → next_word parts make (join_with_byte sep (map write (word ∷ words))) ≡ Ok (Some (word, tail_of words))
  first_is word words is = ap (next_word parts make) (joined_is word words) ∙ word_is word (tail_of words) is (stops_tail words)

  takes_tail : (words : List (List ℕ)) → AllByRecursion IsWritten words → Takes (next_word parts make) (tail_of words) words []
  takes_tail [] is = refl
  takes_tail (word ∷ words) is =
      (tail_of words, behind_sep (join_with_byte sep (map write (word ∷ words))) ∙ first_is word words is.0, takes_tail words is.1)

  takes_words : (words : List (List ℕ)) → AllByRecursion IsWritten words → Takes (next_word parts make) (join_with_byte sep (map write words)) words []
  takes_words [] is = refl
  takes_words (word ∷ words) is = (tail_of words, first_is word words is.0, takes_tail words is.1)

  some_bytes : (text : List ℕ) → is_empty text ≡ false → 0 < length text
  some_bytes [] h = absurd cc
  some_bytes (b ∷ text) h = omega arith

  fewer : (words : List (List ℕ)) → AllByRecursion IsWritten words → length words ≤ length (join_with_byte sep (map write words))
  fewer [] is = omega arith
  fewer (word ∷ []) is = let some = some_bytes (write word) is.0.some in omega (arith, some)
  fewer (word ∷ next ∷ words) is =
      let more : List ℕ = join_with_byte sep (map write (next ∷ words)) in
      let rest = fewer (next ∷ words) is.1 in
      omega (arith, rest, length-append (write word) (sep ∷ more))

  pub words_again : (words : List (List ℕ)) → AllByRecursion IsWritten words → words_of parts make (join_with_byte sep (map write words)) ≡ Ok words
  words_again words is =
      let text : List ℕ = join_with_byte sep (map write words) in
      let few = fewer words is in
      repeat_takes (next_word parts make) (suc (length text)) text words [] (takes_words words is) refl (omega (arith, few))

-- ---- addresses and ranges

same_words : (words : List (List ℕ)) → map (λ (word : List ℕ). word) words ≡ words
same_words [] = refl
same_words (word ∷ words) = ap (λ (l : List (List ℕ)). word ∷ l) (same_words words)

each_address : (words : List (List ℕ)) → AllByRecursion IsAddress words → AllByRecursion (IsWritten is_parting as_it_is 44 (λ word. word) refl) words
each_address [] is = tt
each_address (word ∷ words) is = (record { some = is.0.0; none = is.0.1; made = refl }, each_address words is.1)

pub addresses_again : (words : List (List ℕ)) → AllByRecursion IsAddress words → addresses_of (join_with_byte 44 words) ≡ Ok words
unfolding addresses_of
addresses_again words is =
    ap (λ (l : List (List ℕ)). words_of is_parting as_it_is (join_with_byte 44 l)) (sym (same_words words))
    ∙ words_again is_parting as_it_is 44 (λ word. word) refl words (each_address words is)

range_made : (word : List ℕ) → is_range word ≡ true → range word ≡ Ok word
unfolding range
range_made word is = rw is refl

each_range : (words : List (List ℕ)) → AllByRecursion IsRange words → AllByRecursion (IsWritten is_parting range 44 (λ word. word) refl) words
each_range [] is = tt
each_range (word ∷ words) is = (record { some = is.0.0.0; none = is.0.0.1; made = range_made word is.0.1 }, each_range words is.1)

pub ranges_again : (words : List (List ℕ)) → AllByRecursion IsRange words → ranges_of (join_with_byte 44 words) ≡ Ok words
unfolding ranges_of
ranges_again words is =
    ap (λ (l : List (List ℕ)). words_of is_parting range (join_with_byte 44 l)) (sym (same_words words))
    ∙ words_again is_parting range 44 (λ word. word) refl words (each_range words is)

-- ---- a byte as two hexadecimal digits

abbrev is_some_at : Option ℕ → ℕ → Bool
is_some_at None n = false
is_some_at (Some m) n = eqb m n

some_at : (o : Option ℕ) (n : ℕ) → is_some_at o n ≡ true → o ≡ Some n
some_at None n h = absurd (false≢true h)
some_at (Some m) n h = ap (λ k. Some k) (eqb-true m n h)

digit_is : (n : ℕ) → n < 16 → hex_digit_value (hex_digit n) ≡ Some n
digit_is n small = some_at (hex_digit_value (hex_digit n)) n (agree_below_at (λ k. is_some_at (hex_digit_value (hex_digit k)) k) (λ k. true) 16 n refl small)

digit_no_bar : (n : ℕ) → n < 16 → (hex_digit n == 124) ≡ false
digit_no_bar n small = agree_below_at (λ k. hex_digit k == 124) (λ k. false) 16 n refl small

digit_no_blank : (n : ℕ) → n < 16 → is_blank (hex_digit n) ≡ false
digit_no_blank n small = agree_below_at (λ k. is_blank (hex_digit k)) (λ k. false) 16 n refl small

low_small : (b : ℕ) → b % 16 < 16
low_small b = omega arith

high_small : (b : ℕ) → b < 256 → b / 16 < 16
high_small b h = omega (arith, h)

decoded_is : (b : ℕ) → b < 256 → decode_of (hex_digit (b / 16) ∷ hex_digit (b % 16) ∷ []) ≡ Ok (b ∷ [])
unfolding decode_pairs
decoded_is b small =
    let whole : b / 16 * 16 + b % 16 ≡ b = omega arith in
    rw (digit_is (b / 16) (high_small b small), digit_is (b % 16) (low_small b)) (ap (λ n. Ok (n ∷ [])) whole)

-- ---- phrases: runs of bytes that stand for themselves, and bytes between bars

record IsPlainByte (b : ℕ) : Type 0 where
  pub bar : (b == 124) ≡ false
  pub blank : is_blank b ≡ false

plain_byte : (b : ℕ) → is_plain b ≡ true → IsPlainByte b
plain_byte b h =
    let one = and_parts _ (not (b == 92)) h in
    let two = and_parts _ (not (b == 124)) one.0 in
    let three = and_parts _ (not (b == 34)) two.0 in
    let four = and_parts _ _ three.0 in
    let low : 33 ≤ b = leb-true 33 b four.0 in
    let space : (b == 32) ≡ false = ne_eqb b 32 (λ e. omega (arith, low, e)) in
    let tab : (b == 9) ≡ false = ne_eqb b 9 (λ e. omega (arith, low, e)) in
    record { bar = not_false (b == 124) two.1; blank = rw (space, tab) refl }

no_blanks : (text : List ℕ) → list_all (λ b. nat_lt b 256) text ≡ true → list_any is_blank (phrase_text text) ≡ false
no_blanks [] h = refl
no_blanks (b ∷ text) h =
    let both = and_parts (nat_lt b 256) (list_all (λ b. nat_lt b 256) text) h in
    let small : b < 256 = bool.ltb-true b 256 both.0 in
    let rest = no_blanks text both.1 in
    elim (cases_Bool (is_plain b)) [
      | inl is ↦ rw is (any_append is_blank (b ∷ []) (phrase_text text) (rw (plain_byte b is).blank refl) rest)
      | inr not_is ↦ rw not_is
          (any_append is_blank (124 ∷ hex_digit (b / 16) ∷ hex_digit (b % 16) ∷ 124 ∷ []) (phrase_text text)
          (rw (digit_no_blank (b / 16) (high_small b small), digit_no_blank (b % 16) (low_small b)) refl) rest)
    ]

some_phrase : (text : List ℕ) → is_empty text ≡ false → is_empty (phrase_text text) ≡ false
some_phrase [] h = h
some_phrase (b ∷ text) h =
    elim (cases_Bool (is_plain b)) [
      | inl is ↦ rw is refl
      | inr not_is ↦ rw not_is refl
    ]

module _ (whole : List ℕ) where
  -- some text is taken piece by piece, and the pieces together are these bytes
  record Taken (text bytes : List ℕ) : Type 0 where
    pub pieces : List (List ℕ)
    pub takes : Takes (phrase_part whole) text pieces []
    pub all : concat pieces ≡ bytes
    pub few : length pieces ≤ length text

  run_part : (run rest : List ℕ) → is_empty run ≡ false → list_any (λ b. b == 124) run ≡ false → stops (λ b. b == 124) rest ≡ true
      → phrase_part whole (run ++ rest) ≡ Ok (Some (run, rest))
  unfolding phrase_part
  run_part [] rest some none end = absurd cc
  run_part (b ∷ run) rest some none end =
      let text : List ℕ = b ∷ (run ++ rest) in
      let long : to_byte 124 text ≡ length (b ∷ run) = to_stop (λ b. b == 124) (b ∷ run) rest none end in
      let front : take (to_byte 124 text) text ≡ b ∷ run = take_to (to_byte 124 text) (b ∷ run) rest long in
      let behind : drop (to_byte 124 text) text ≡ rest = drop_to (to_byte 124 text) (b ∷ run) rest long in
      rw (front, behind, (or_parts (b == 124) (list_any (λ b. b == 124) run) none).0) refl

  hex_part : (b : ℕ) (rest : List ℕ) → b < 256 → phrase_part whole (124 ∷ hex_digit (b / 16) ∷ hex_digit (b % 16) ∷ 124 ∷ rest) ≡ Ok (Some (b ∷ [], rest))
  unfolding phrase_part
  hex_part b rest small =
      let digits : List ℕ = hex_digit (b / 16) ∷ hex_digit (b % 16) ∷ [] in
      let none : list_any (λ b. b == 124) digits ≡ false = rw (digit_no_bar (b / 16) (high_small b small), digit_no_bar (b % 16) (low_small b)) refl in
      let long : to_byte 124 (digits ++ 124 ∷ rest) ≡ 2 = to_at (λ b. b == 124) digits 124 rest none refl in
      ap (λ n. up_to_bar whole (take n (digits ++ 124 ∷ rest)) (drop n (digits ++ 124 ∷ rest))) long
      ∙ rw (decoded_is b small) refl

  -- the run before what is left, if there is one
  with_run : (run rest bytes : List ℕ) → list_any (λ b. b == 124) run ≡ false → stops (λ b. b == 124) rest ≡ true → Taken rest bytes → Taken (run ++ rest) (run ++ bytes)
  with_run [] rest bytes none end taken = taken
  with_run (b ∷ run) rest bytes none end taken =
      let few = taken.few in
      record {
        pieces = (b ∷ run) ∷ taken.pieces;
        takes = (rest, run_part (b ∷ run) rest refl none end, taken.takes);
        all = ap (λ (l : List ℕ). (b ∷ run) ++ l) taken.all;
        few = omega (arith, few, length-append (b ∷ run) rest);
      }

  taken_from : (run text : List ℕ) → list_any (λ b. b == 124) run ≡ false → list_all (λ b. nat_lt b 256) text ≡ true → Taken (run ++ phrase_text text) (run ++ text)
  taken_from run [] none h = with_run run [] [] none refl (record { pieces = []; takes = refl; all = refl; few = omega arith })
  taken_from run (b ∷ text) none h =
      let both = and_parts (nat_lt b 256) (list_all (λ b. nat_lt b 256) text) h in
      let small : b < 256 = bool.ltb-true b 256 both.0 in
      elim (cases_Bool (is_plain b)) [
        | inl is ↦
            let longer : list_any (λ b. b == 124) (run ++ b ∷ []) ≡ false = any_append (λ b. b == 124) run (b ∷ []) none (rw (plain_byte b is).bar refl) in
            let more : Taken ((run ++ b ∷ []) ++ phrase_text text) ((run ++ b ∷ []) ++ text) = taken_from (run ++ b ∷ []) text longer both.1 in
            let one : Taken (run ++ (b ∷ phrase_text text)) ((run ++ b ∷ []) ++ text) = subst (λ (l : List ℕ). Taken l ((run ++ b ∷ []) ++ text)) (append_assoc run (b ∷ []) (phrase_text text)) more in
            let two : Taken (run ++ (b ∷ phrase_text text)) (run ++ (b ∷ text)) = subst (λ (l : List ℕ). Taken (run ++ (b ∷ phrase_text text)) l) (append_assoc run (b ∷ []) text) one in
            rw is two
        | inr not_is ↦
            let rest : Taken (phrase_text text) text = taken_from [] text refl both.1 in
            let few = rest.few in
            let here : Taken (124 ∷ hex_digit (b / 16) ∷ hex_digit (b % 16) ∷ 124 ∷ phrase_text text) (b ∷ text) =
            record {
              pieces = (b ∷ []) ∷ rest.pieces;
              takes = (phrase_text text, hex_part b (phrase_text text) small, rest.takes);
              all = ap (λ (l : List ℕ). b ∷ l) rest.all;
              few = omega (arith, few);
            }
            in rw not_is (with_run run (124 ∷ hex_digit (b / 16) ∷ hex_digit (b % 16) ∷ 124 ∷ phrase_text text) (b ∷ text) none refl here)
      ]

pub phrase_again : (text : List ℕ) → list_all (λ b. nat_lt b 256) text ≡ true → phrase (phrase_text text) ≡ Ok text
unfolding phrase phrase_part
phrase_again text h =
    let whole : List ℕ = phrase_text text in
    let taken : Taken whole whole text = taken_from whole [] text refl h in
    let few = taken.few in
    let read = repeat_takes (phrase_part whole) (suc (length whole)) whole taken.pieces [] taken.takes refl (omega (arith, few)) in
    rw read (ap (λ (l : List ℕ). Ok l) taken.all)

each_phrase : (words : List (List ℕ)) → AllByRecursion IsPhrase words → AllByRecursion (IsWritten is_blank phrase 32 phrase_text refl) words
each_phrase [] is = tt
each_phrase (word ∷ words) is =
    (record { some = some_phrase word is.0.0; none = no_blanks word is.0.1; made = phrase_again word is.0.1 }, each_phrase words is.1)

pub phrases_again : (words : List (List ℕ)) → AllByRecursion IsPhrase words → phrases_of (join_with_byte 32 (map phrase_text words)) ≡ Ok words
unfolding phrases_of
phrases_again words is = words_again is_blank phrase 32 phrase_text refl words (each_phrase words is)
