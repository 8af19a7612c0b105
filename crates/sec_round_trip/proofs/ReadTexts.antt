-- What was read can be printed: no word and no text in quotes ends with a backslash.
use Rattle.std.proofs.Common.{◌≡◌, ℕ, suc, ◌-◌, Bool, true, false, cond, eqb, List, [], ◌∷◌, length, take, drop, Option, Some, None, Ok, Err, refl, sym, ap, ◌∙◌, subst, arith}
use Rattle.std.specs.Prelude.{not, ◌&&◌, ◌==◌, slice_index}
use Rattle.std.specs.List.{AllByRecursion, list_any, prefix_len}
use Rattle.std.proofs.lemmas.Bool.{and_parts, eq-eqb, false≢true, ne_eqb}
use Rattle.sec_text.specs.declared.faults.WordFault.TheVariants as faults
use Rattle.sec_text.specs.Quotes.{begins, behind, is_blank, quoted}
use Rattle.sec_text.specs.Readers.{Takes}
use Rattle.sec_text.specs.Words.{AreWords, Read, closed, is_apart, is_plain, next_word, plain, plain_end, word_here, words}
use Rattle.sec_text.specs.Written.{ends_with_backslash}
use Rattle.sec_text.proofs.WordLaws.{words_are}
use Rattle.sec_round_trip.proofs.Names.{not_false}

-- ---- texts in quotes

abbrev pub Ends : Option (List ℕ × List ℕ) → Type 0
Ends None = Unit {0}
Ends (Some x) = ends_with_backslash x.0 ≡ false

-- no byte is read only where the quote stands at the front
abbrev Closes : ℕ → List ℕ → Option (List ℕ × List ℕ) → Type 0
Closes quote bytes None = Unit {0}
Closes quote bytes (Some ([], rest)) = begins quote bytes ≡ true
Closes quote bytes (Some (b ∷ text, rest)) = Unit {0}

closes_behind : (quote b : ℕ) (bytes : List ℕ) (o : Option (List ℕ × List ℕ)) → Closes quote bytes (behind b o)
closes_behind quote b bytes None = tt
closes_behind quote b bytes (Some x) = tt

closes_one : (quote a : ℕ) (p : Bool) → eqb a quote ≡ p → Closes quote (a ∷ []) (cond p (Some ([], [])) None)
closes_one quote a true is = is
closes_one quote a false is = tt

closes_two : (quote a b : ℕ) (rest : List ℕ) (p q : Bool) → eqb a quote ≡ p
    → Closes quote (a ∷ b ∷ rest) (cond p (Some ([], b ∷ rest)) (cond q (behind quote (quoted quote rest)) (behind a (quoted quote (b ∷ rest)))))
closes_two quote a b rest true q is = is
closes_two quote a b rest false true is = closes_behind quote quote (a ∷ b ∷ rest) (quoted quote rest)
closes_two quote a b rest false false is = closes_behind quote a (a ∷ b ∷ rest) (quoted quote (b ∷ rest))

closes : (quote : ℕ) (bytes : List ℕ) → Closes quote bytes (quoted quote bytes)
closes quote [] = tt
closes quote (a ∷ []) = closes_one quote a (eqb a quote) refl
closes quote (a ∷ b ∷ rest) = closes_two quote a b rest (eqb a quote) (eqb a 92 && eqb b quote) refl

module _ (quote : ℕ) (other : eqb 92 quote ≡ false) where
  no_backslash : eqb quote 92 ≡ false
  no_backslash = ne_eqb quote 92 (λ e. absurd (false≢true (sym other ∙ eq-eqb 92 quote (sym e))))

  -- behind a byte that is no backslash
  ends_behind : (b : ℕ) → eqb b 92 ≡ false → (o : Option (List ℕ × List ℕ)) → Ends o → Ends (behind b o)
  ends_behind b is None h = tt
  ends_behind b is (Some ([], rest)) h = is
  ends_behind b is (Some (c ∷ text, rest)) h = h

  -- behind any byte, where some byte comes next
  ends_before : (a b : ℕ) (rest : List ℕ) → eqb b quote ≡ false → (o : Option (List ℕ × List ℕ)) → Closes quote (b ∷ rest) o → Ends o → Ends (behind a o)
  ends_before a b rest is None c h = tt
  ends_before a b rest is (Some ([], more)) c h = absurd (false≢true (sym is ∙ c))
  ends_before a b rest is (Some (d ∷ text, more)) c h = h

  ends_one : (p : Bool) → Ends (cond p (Some ([], [])) None)
  ends_one true = refl
  ends_one false = tt

  ends_two : (a b : ℕ) (rest : List ℕ) (p q r : Bool) → eqb a 92 ≡ q → eqb b quote ≡ r → Ends (quoted quote rest) → Ends (quoted quote (b ∷ rest))
      → Ends (cond p (Some ([], b ∷ rest)) (cond (q && r) (behind quote (quoted quote rest)) (behind a (quoted quote (b ∷ rest)))))
  ends_two a b rest true q r is next h k = refl
  ends_two a b rest false true true is next h k = ends_behind quote no_backslash (quoted quote rest) h
  ends_two a b rest false true false is next h k = ends_before a b rest next (quoted quote (b ∷ rest)) (closes quote (b ∷ rest)) k
  ends_two a b rest false false r is next h k = ends_behind a is (quoted quote (b ∷ rest)) k

  pub quoted_ends : (bytes : List ℕ) → Ends (quoted quote bytes)
  quoted_ends [] = tt
  quoted_ends (a ∷ []) = ends_one (eqb a quote)
  quoted_ends (a ∷ b ∷ rest) = ends_two a b rest (eqb a quote) (eqb a 92) (eqb b quote) refl refl (quoted_ends rest) (quoted_ends (b ∷ rest))

pub quoted_can_be_printed : (quote : ℕ) (bytes text rest : List ℕ) → eqb 92 quote ≡ false → quoted quote bytes ≡ Some (text, rest) → ends_with_backslash text ≡ false
quoted_can_be_printed quote bytes text rest other is = subst Ends is (quoted_ends quote other bytes)

-- ---- words

abbrev EndsRead : Read → Type 0
EndsRead (Ok None) = Unit {0}
EndsRead (Ok (Some x)) = ends_with_backslash x.0 ≡ false
EndsRead (Err e) = Unit {0}

closed_one : (p : Bool) (x : List ℕ × List ℕ) → ends_with_backslash x.0 ≡ false → EndsRead (cond p (Ok (Some x)) (Err faults.BadWord))
closed_one true x h = h
closed_one false x h = tt

closed_ends : (o : Option (List ℕ × List ℕ)) → Ends o → EndsRead (closed o)
closed_ends None h = tt
closed_ends (Some x) h = closed_one (is_apart x.1) x h

pub last_is : (word : List ℕ) → ends_with_backslash word ≡ (slice_index word (length word - 1) == 92)
last_is [] = refl
last_is (b ∷ []) = refl
last_is (b ∷ c ∷ rest) =
    let place : length (b ∷ c ∷ rest) - 1 ≡ suc (length (c ∷ rest) - 1) = omega arith in
    last_is (c ∷ rest) ∙ sym (ap (λ n. slice_index (b ∷ c ∷ rest) n == 92) place)

plain_one : (word rest : List ℕ) (p : Bool) → is_plain word ≡ p → EndsRead (cond p (Ok (Some (word, rest))) (Err faults.BadWord))
plain_one word rest true is =
    last_is word ∙ not_false (slice_index word (length word - 1) == 92) (and_parts (not (list_any (λ b. b == 34) word)) (not (slice_index word (length word - 1) == 92)) is).1
plain_one word rest false is = tt

plain_ends : (bytes : List ℕ) → EndsRead (plain bytes)
plain_ends bytes = plain_one (take (plain_end bytes) bytes) (drop (plain_end bytes) bytes) (is_plain (take (plain_end bytes) bytes)) refl

here_two : (b : ℕ) (rest : List ℕ) (p : Bool) → EndsRead (cond p (closed (quoted 34 rest)) (plain (b ∷ rest)))
here_two b rest true = closed_ends (quoted 34 rest) (quoted_ends 34 refl rest)
here_two b rest false = plain_ends (b ∷ rest)

here_ends : (line : List ℕ) → EndsRead (word_here line)
here_ends [] = tt
here_ends (b ∷ rest) = here_two b rest (eqb b 34)

next_ends : (line : List ℕ) → EndsRead (next_word line)
unfolding next_word
next_ends line = here_ends (drop (prefix_len is_blank line) line)

takes_ends : (line : List ℕ) (given : List (List ℕ)) (rest : List ℕ) → Takes next_word line given rest → AllByRecursion (λ word. ends_with_backslash word ≡ false) given
takes_ends line [] rest t = tt
takes_ends line (word ∷ given) rest t = (subst EndsRead t.1 (next_ends line), takes_ends t.0 given rest t.2)

pub words_can_be_printed : (line : List ℕ) (given : List (List ℕ)) → words line ≡ Ok given → AllByRecursion (λ word. ends_with_backslash word ≡ false) given
words_can_be_printed line given is =
    let read : AreWords line (Ok given) = subst (AreWords line) is (words_are line) in
    takes_ends line given read.0 read.1
