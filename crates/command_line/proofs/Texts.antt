-- Words that are texts, one after another.
use Rattle.std.proofs.Common.{◌≡◌, ◌<◌, ◌+◌, ℕ, suc, List, [], ◌∷◌, ◌++◌, length, inl, inr, drop, drop-cons, take, map, get_or, None, true, false, refl, sym, ap, ap₂, subst, ◌∙◌, arith}
use Rattle.std.specs.List.{list_all}
use Rattle.std.specs.Str.{IsUtf8, is_utf8}
use Rattle.std.proofs.lemmas.Bool.{cases_Bool}
use Rattle.std.proofs.lemmas.List.{map-append, take_more}
use Rattle.std.proofs.lemmas.Str.{IsUtf8-from_is_utf8, is_utf8-from_IsUtf8}
use Rattle.command_line.specs.Words.{texts_in}

no_text : (word : List ℕ) → ¬ IsUtf8 word → is_utf8 word ≡ false
no_text word never = elim (cases_Bool (is_utf8 word)) [ inl is_text ↦ absurd (never (IsUtf8-from_is_utf8 word is_text)) | inr is_none ↦ is_none ]

-- a word that a loop is at
module _ (words : List (List ℕ)) (i : ℕ) (word slice : List ℕ) (within : i < length words) (here : word ≡ get_or words i word) (is : slice ≡ word) where
  -- where it is a text, the words are texts if those after it are
  pub left_more : IsUtf8 slice → list_all is_utf8 (drop i words) ≡ list_all is_utf8 words
      → list_all is_utf8 (drop (i + 1) words) ≡ list_all is_utf8 words
  left_more text left =
      let is_text : is_utf8 (get_or words i word) ≡ true = ap is_utf8 (sym (is ∙ here)) ∙ is_utf8-from_IsUtf8 slice text in
      let next : suc i ≡ i + 1 = omega arith in
      subst (λ k. list_all is_utf8 (drop k words) ≡ list_all is_utf8 words) next (rw (drop-cons words i word within, is_text) at left)

  -- and where it is none, they are not all texts
  pub none_left : ¬ IsUtf8 slice → list_all is_utf8 (drop i words) ≡ list_all is_utf8 words → None ≡ texts_in words
  none_left never left =
      let is_none : is_utf8 (get_or words i word) ≡ false = ap is_utf8 (sym (is ∙ here)) ∙ no_text slice never in
      let none : false ≡ list_all is_utf8 words = rw (drop-cons words i word within, is_none) at left in
      rw (← none) refl

  pub taken_more : {X : Type 0} (shown : X → List ℕ) (texts new : List X) (text : X) → shown text ≡ slice → new ≡ texts ++ text ∷ []
      → map shown texts ≡ take i words → map shown new ≡ take (i + 1) words
  taken_more shown texts new text same pushed taken =
      let last : shown text ≡ get_or words i word = same ∙ (is ∙ here) in
      ap (map shown) pushed ∙ (map-append shown texts (text ∷ [])
      ∙ (ap₂ (λ front t. front ++ t ∷ []) taken last ∙ sym (take_more words i word within)))
