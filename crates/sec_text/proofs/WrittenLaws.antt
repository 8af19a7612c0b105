-- What was written is read again.
use Rattle.std.proofs.Common.{◌≡◌, ℕ, Bool, true, false, cond, eqb, List, [], ◌∷◌, ◌++◌, Some, Ok, refl, ap, ◌∙◌, inl, inr, append_assoc}
use Rattle.std.specs.Prelude.{◌&&◌}
use Rattle.std.specs.List.{AllByRecursion}
use Rattle.std.proofs.lemmas.Bool.{cases_Bool, eqb-true}
use Rattle.sec_text.specs.Readers.{Takes}
use Rattle.sec_text.specs.Quotes.{behind, quoted, begins}
use Rattle.sec_text.specs.Words.{is_apart, closed, next_word, AreWords}
use Rattle.sec_text.specs.Written.{escaped, ends_with_backslash, spread}
use Rattle.sec_text.proofs.QuotedSteps.{quoted_step}

-- no escaped text begins with the quote
not_begun : (quote c : ℕ) (rest more : List ℕ) (p : Bool) → eqb 92 quote ≡ false → eqb c quote ≡ p → begins quote (cond p (92 ∷ quote ∷ rest) (c ∷ rest) ++ more) ≡ false
not_begun quote c rest more true other is = other
not_begun quote c rest more false other is = is

kept_byte : (quote b : ℕ) (rest : List ℕ) → eqb b quote ≡ false → (eqb b 92 && begins quote rest) ≡ false → quoted quote (b ∷ rest) ≡ behind b (quoted quote rest)
kept_byte quote b rest other plain = quoted_step quote (b ∷ rest) ∙ rw (other, plain) refl

ends : (quote : ℕ) (rest : List ℕ) → eqb quote quote ≡ true → quoted quote (quote ∷ rest) ≡ Some ([], rest)
ends quote rest same = quoted_step quote (quote ∷ rest) ∙ rw same refl

escape_byte : (quote : ℕ) (rest : List ℕ) → eqb 92 quote ≡ false → eqb quote quote ≡ true → quoted quote (92 ∷ quote ∷ rest) ≡ behind quote (quoted quote rest)
escape_byte quote rest other same = quoted_step quote (92 ∷ quote ∷ rest) ∙ rw (other, same) refl

-- a word without its first byte
shorter : (b : ℕ) (word : List ℕ) → ends_with_backslash (b ∷ word) ≡ false → ends_with_backslash word ≡ false
shorter b [] h = refl
shorter b (c ∷ word) h = h

and_false : (p : Bool) → (p && false) ≡ false
and_false true = refl
and_false false = refl

module _ (quote : ℕ) (other : eqb 92 quote ≡ false) (same : eqb quote quote ≡ true) where
  mid : (b : ℕ) (word more : List ℕ) → ends_with_backslash (b ∷ word) ≡ false → (eqb b 92 && begins quote (escaped quote word ++ quote ∷ more)) ≡ false
  mid b [] more h = rw h refl
  mid b (c ∷ word) more h = rw (not_begun quote c (escaped quote word) (quote ∷ more) (eqb c quote) other refl) (and_false (eqb b 92))

  pub quoted-escaped : (word more : List ℕ) → ends_with_backslash word ≡ false → quoted quote (escaped quote word ++ quote ∷ more) ≡ Some (word, more)
  quoted-escaped [] more h = ends quote more same
  quoted-escaped (b ∷ word) more h =
      let again = quoted-escaped word more (shorter b word h) in
      elim (cases_Bool (eqb b quote)) [
        | inl is ↦ rw (is, eqb-true b quote is) (escape_byte quote (escaped quote word ++ quote ∷ more) other same ∙ ap (behind quote) again)
        | inr not_is ↦ rw not_is (kept_byte quote b (escaped quote word ++ quote ∷ more) not_is (mid b word more h) ∙ ap (behind b) again)
      ]

apart : (words : List (List ℕ)) → is_apart (spread words) ≡ true
apart [] = refl
apart (word ∷ words) = refl

next_spread : (word : List ℕ) (words : List (List ℕ)) → ends_with_backslash word ≡ false → next_word (spread (word ∷ words)) ≡ Ok (Some (word, spread words))
unfolding next_word
next_spread word words h =
    let grouped : (escaped 34 word ++ 34 ∷ []) ++ spread words ≡ escaped 34 word ++ (34 ∷ spread words) = append_assoc (escaped 34 word) (34 ∷ []) (spread words) in
    let read : quoted 34 ((escaped 34 word ++ 34 ∷ []) ++ spread words) ≡ Some (word, spread words) = ap (quoted 34) grouped ∙ quoted-escaped 34 refl refl word (spread words) h in
    ap closed read ∙ rw (apart words) refl

abbrev pub AreWritable : List (List ℕ) → Type 0
AreWritable words = AllByRecursion (λ word. ends_with_backslash word ≡ false) words

takes_spread : (words : List (List ℕ)) → AreWritable words → Takes next_word (spread words) words []
takes_spread [] all = refl
takes_spread (word ∷ words) all = (spread words, next_spread word words all.0, takes_spread words all.1)

pub spread_again : (words : List (List ℕ)) → AreWritable words → AreWords (spread words) (Ok words)
unfolding next_word
spread_again words all = ([], takes_spread words all, refl)
