-- The lines of a text, and their words, are whole characters without a line feed.
use Rattle.std.proofs.Common.{◌≡◌, ℕ, suc, ◌+◌, ◌-◌, Bool, true, false, cond, List, [], ◌∷◌, ◌++◌, length, map, get_or, take, drop, drop-cons, Option, Some, None, Ok, Err, refl, sym, ap, ◌∙◌, append-nil, append_assoc, arith, subst, inl, inr}
use Rattle.std.specs.Prelude.{not, ◌==◌, nat_lt}
use Rattle.std.specs.List.{AllByRecursion, enumerate_from, list_all, onto_first, prefix_len, slice_split}
use Rattle.std.specs.Str.{IsUtf8, is_utf8}
use Rattle.std.proofs.lemmas.Bool.{and_from, cases_Bool, eqb-true, not_from_false, or_cases}
use Rattle.std.proofs.lemmas.Str.{IsUtf8-from_is_utf8, IsUtf8-nil}
use Rattle.sec_text.specs.declared.faults.TextFault.TheVariants as texts
use Rattle.sec_text.specs.declared.faults.WordFault.{WordFault}
use Rattle.sec_text.specs.declared.faults.WordFault.TheVariants as faults
use Rattle.sec_text.specs.declared.line.Line.{Line}
use Rattle.sec_text.specs.Lines.{before, fault_line, first_long, goes_on, is_line_feed, is_passed, is_trimmed, lines_in, lines_of, logical, measured, physical, text_here, trim}
use Rattle.sec_text.specs.Quotes.{is_blank, quoted}
use Rattle.sec_text.specs.Words.{closed, is_apart, is_plain, next_word, plain, plain_end, word_here, words}
use Rattle.sec_text.specs.Written.{ends_with_backslash}
use Rattle.sec_round_trip.specs.Directives.{has_no_feed}
use Rattle.sec_round_trip.proofs.FineTexts.{blank_low, FineQuoted, IsFine, IsLow, all_parts, begins_ascii, feed_append, fine_append, fine_behind, fine_end, fine_from, fine_skip, fine_take, fine_to, low_byte, low_two, quoted_from, utf8_at, utf8_before, utf8_behind}
use Rattle.sec_parts.proofs.Given.{Given, GivesNext, given_all, given_at, given_from, given_if}
use Rattle.sec_round_trip.proofs.ReadTexts.{words_can_be_printed}
use Rattle.sec_round_trip.proofs.Sound.{IsSound}

-- ---- the physical lines

-- whole characters, with line feeds
record IsWide (text : List ℕ) : Type 0 where
  pub utf8 : IsUtf8 text
  pub bytes : list_all (λ b. nat_lt b 256) text ≡ true

-- what stands before the first line feed, behind some text, and what comes later
abbrev FineParts : List ℕ → List (List ℕ) → Type 0
FineParts done [] = ⊥
FineParts done (part ∷ parts) = IsFine (done ++ part) × AllByRecursion IsFine parts

fine_all : (parts : List (List ℕ)) → FineParts [] parts → AllByRecursion IsFine parts
fine_all [] h = tt
fine_all (part ∷ parts) h = h

first_fine : (done : List ℕ) (b : ℕ) (parts : List (List ℕ)) → FineParts (done ++ b ∷ []) parts → FineParts done (onto_first b parts)
first_fine done b [] h = absurd h
first_fine done b (part ∷ parts) h = (subst IsFine (append_assoc done (b ∷ []) part) h.0, h.1)

feed_low : (b : ℕ) → is_line_feed b ≡ true → nat_lt b 128 ≡ true
feed_low b is = ap (λ n. nat_lt n 128) (eqb-true b 10 is)

parts_fine : (done text : List ℕ) → has_no_feed done ≡ true → IsWide (done ++ text) → FineParts done (slice_split is_line_feed text)
parts_fine done [] none wide = (record { utf8 = wide.utf8; feed = ap has_no_feed (append-nil done) ∙ none; bytes = wide.bytes }, tt)
parts_fine done (b ∷ text) none wide = elim (cases_Bool (is_line_feed b)) [
  | inl is ↦
      let low : nat_lt b 128 ≡ true = feed_low b is in
      let here : IsFine (done ++ []) = record {
        utf8 = subst IsUtf8 (sym (append-nil done)) (utf8_before done (b ∷ text) low wide.utf8);
        feed = ap has_no_feed (append-nil done) ∙ none;
        bytes = ap (list_all (λ c. nat_lt c 256)) (append-nil done) ∙ (all_parts (λ c. nat_lt c 256) done (b ∷ text) wide.bytes).0;
      } in
      let rest : IsWide text = record {
        utf8 = utf8_behind b text low (utf8_at done (b ∷ text) low wide.utf8);
        bytes = (all_parts (λ c. nat_lt c 256) (b ∷ []) text (all_parts (λ c. nat_lt c 256) done (b ∷ text) wide.bytes).1).1;
      } in
      rw is (here, fine_all (slice_split is_line_feed text) (parts_fine [] text refl rest))
  | inr not_is ↦
      let longer : has_no_feed (done ++ b ∷ []) ≡ true = feed_append done (b ∷ []) none (and_from (not (is_line_feed b)) true (not_from_false (is_line_feed b) not_is) refl) in
      let grouped : IsWide ((done ++ b ∷ []) ++ text) = subst IsWide (sym (append_assoc done (b ∷ []) text)) wide in
      rw not_is (first_fine done b (slice_split is_line_feed text) (parts_fine (done ++ b ∷ []) text longer grouped))
]

trimmed_low : IsLow is_trimmed
trimmed_low b is = elim (or_cases (is_blank b) (b == 13) is) [
  | inl blank ↦ low_two 32 9 refl refl b blank
  | inr return ↦ low_byte 13 refl b return
]

trim_fine : (text : List ℕ) → IsFine text → IsFine (trim text)
trim_fine text fine =
    let rest : List ℕ = drop (prefix_len is_trimmed text) text in
    fine_end true is_trimmed trimmed_low rest (fine_skip true is_trimmed trimmed_low text fine)

abbrev FineLines : List (ℕ × List ℕ) → Type 0
FineLines ps = AllByRecursion (λ (p : ℕ × List ℕ). IsFine p.1) ps

numbered_fine : (n : ℕ) (parts : List (List ℕ)) → AllByRecursion IsFine parts → FineLines (enumerate_from n (map trim parts))
numbered_fine n [] h = tt
numbered_fine n (part ∷ parts) h = (trim_fine part h.0, numbered_fine (n + 1) parts h.1)

-- ---- the logical lines

last_low : (text : List ℕ) → goes_on text ≡ true → begins_ascii (drop (length text - 1) text) ≡ true
last_low [] h = refl
last_low (b ∷ text) h =
    let n : ℕ = length (b ∷ text) - 1 in
    let is : get_or (b ∷ text) n 0 ≡ 92 = eqb-true (get_or (b ∷ text) n 0) 92 h in
    subst (λ (l : List ℕ). begins_ascii l ≡ true) (sym (drop-cons (b ∷ text) n 0 (omega arith))) (ap (λ c. nat_lt c 128) is)

joined_fine : (text more : List ℕ) (p : Bool) → goes_on text ≡ p → IsFine text → IsFine more → IsFine (cond p (take (length text - 1) text ++ more) text)
joined_fine text more true is fine rest = fine_append true (take (length text - 1) text) more (fine_take true (length text - 1) text (last_low text is) fine) rest
joined_fine text more false is fine rest = fine

here_fine : (ps : List (ℕ × List ℕ)) → FineLines ps → IsFine (text_here ps)
here_fine [] h = record { utf8 = IsUtf8-nil; feed = refl; bytes = refl }
here_fine (p ∷ ps) h = joined_fine p.1 (text_here ps) (goes_on p.1) refl h.0 (here_fine ps h.1)

abbrev pub FineLine : Line → Type 0
FineLine line = IsFine line.text

before_fine : (n : ℕ) (text : List ℕ) (lines : List Line) → IsFine text → AllByRecursion FineLine lines → AllByRecursion FineLine (before n text lines)
before_fine n [] lines fine rest = rest
before_fine n (b ∷ text) lines fine rest = (fine, rest)

passed_fine : (p : Bool) (xs ys : List Line) → AllByRecursion FineLine xs → AllByRecursion FineLine ys → AllByRecursion FineLine (cond p xs ys)
passed_fine true xs ys a b = a
passed_fine false xs ys a b = b

in_fine : (is_open : Bool) (ps : List (ℕ × List ℕ)) → FineLines ps → AllByRecursion FineLine (lines_in is_open ps)
in_fine true [] h = tt
in_fine false [] h = tt
in_fine true (p ∷ ps) h = in_fine (goes_on p.1) ps h.1
in_fine false (p ∷ ps) h =
    passed_fine (is_passed p.1) (lines_in false ps) (before p.0 (text_here (p ∷ ps)) (lines_in (goes_on p.1) ps)) (in_fine false ps h.1)
    (before_fine p.0 (text_here (p ∷ ps)) (lines_in (goes_on p.1) ps) (here_fine (p ∷ ps) h) (in_fine (goes_on p.1) ps h.1))

measured_fine : (o : Option Line) (lines : List Line) → AllByRecursion FineLine lines → Given (AllByRecursion FineLine) (measured o lines)
measured_fine None lines h = h
measured_fine (Some line) lines h = tt

pub lines_give : (text : List ℕ) → list_all (λ b. nat_lt b 256) text ≡ true → Given (AllByRecursion FineLine) (lines_of text)
unfolding lines_of
lines_give text bytes =
    given_if (AllByRecursion FineLine) (is_utf8 text) (measured (first_long (logical text)) (logical text)) (Err (texts.NotText (fault_line text)))
    (λ is. measured_fine (first_long (logical text)) (logical text)
    (in_fine false (physical text) (numbered_fine 1 (slice_split is_line_feed text) (fine_all (slice_split is_line_feed text) (parts_fine [] text refl (record { utf8 = IsUtf8-from_is_utf8 text is; bytes = bytes }))))))
    (λ not_is. tt)

-- ---- the words of a line

closed_if : (p : Bool) (x : List ℕ × List ℕ) → IsFine x.0 → IsFine x.1 → GivesNext {E = WordFault} IsFine IsFine (cond p (Ok (Some x)) (Err faults.BadWord))
closed_if true x a b = (a, b)
closed_if false x a b = tt

closed_gives : (o : Option (List ℕ × List ℕ)) → FineQuoted true [] o → GivesNext IsFine IsFine (closed o)
closed_gives None h = tt
closed_gives (Some x) h = closed_if (is_apart x.1) x h.0 h.1

plain_if : (p : Bool) (bytes : List ℕ) → IsFine bytes → GivesNext {E = WordFault} IsFine IsFine (cond p (Ok (Some (take (plain_end bytes) bytes, drop (plain_end bytes) bytes))) (Err faults.BadWord))
plain_if true bytes h = (fine_to true is_blank blank_low bytes h, fine_from true is_blank blank_low bytes h)
plain_if false bytes h = tt

here_if : (b : ℕ) (rest : List ℕ) (p : Bool) → (b == 34) ≡ p → IsFine (b ∷ rest) → GivesNext IsFine IsFine (cond p (closed (quoted 34 rest)) (plain (b ∷ rest)))
here_if b rest true is h = closed_gives (quoted 34 rest) (quoted_from true 34 refl [] rest (fine_behind true b rest (low_byte 34 refl b is) h))
here_if b rest false is h = plain_if (is_plain (take (plain_end (b ∷ rest)) (b ∷ rest))) (b ∷ rest) h

here_gives : (line : List ℕ) → IsFine line → GivesNext IsFine IsFine (word_here line)
here_gives [] h = tt
here_gives (b ∷ rest) h = here_if b rest (b == 34) refl h

next_gives : (line : List ℕ) → IsFine line → GivesNext IsFine IsFine (next_word line)
unfolding next_word
next_gives line h = here_gives (drop (prefix_len is_blank line) line) (fine_skip true is_blank blank_low line h)

words_fine : (line : List ℕ) → IsFine line → Given (AllByRecursion IsFine) (words line)
unfolding words next_word
words_fine line h = given_all IsFine IsFine next_word next_gives (suc (length line)) line h

both : (given : List (List ℕ)) → AllByRecursion IsFine given → AllByRecursion (λ word. ends_with_backslash word ≡ false) given → AllByRecursion IsSound given
both [] a b = tt
both (word ∷ given) a b = (record { fine = a.0; ends = b.0 }, both given a.1 b.1)

pub words_give : (line : List ℕ) → IsFine line → Given (AllByRecursion IsSound) (words line)
words_give line h =
    given_from (AllByRecursion IsSound) (words line) (λ given is. both given (given_at (AllByRecursion IsFine) (words line) given (words_fine line h) is) (words_can_be_printed line given is))
