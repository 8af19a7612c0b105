-- The first part of a split list, and text that is UTF-8 or not.
use Rattle.std.proofs.Common.{◌≡◌, ℕ, suc, drop-drop, ◌<◌, ◌+◌, Bool, false, List, [], ◌∷◌, length, take, drop, refl, ap, ◌∙◌, sym, inl, inr, arith, length-drop}
use Rattle.std.specs.List.{slice_split, position_or_len}
use Rattle.std.specs.Str.{IsUtf8, is_utf8}
use Rattle.std.proofs.lemmas.Bool.{cases_Bool}
use Rattle.std.proofs.lemmas.List.Splits.{slice_split_first}
use Rattle.std.proofs.lemmas.List.{nil_from_length}
use Rattle.std.proofs.lemmas.Str.{IsUtf8-from_is_utf8}

abbrev IsWhole : (ℕ → Bool) → List ℕ → Type 0
IsWhole p text = drop (position_or_len p text) text ≡ [] → slice_split p text ≡ take (position_or_len p text) text ∷ []

pub split_whole : (p : ℕ → Bool) (text : List ℕ) → IsWhole p text
split_whole p [] = λ e. refl
split_whole p (b ∷ text) =
    elim (cases_Bool (p b)) [
      | inl here ↦ rw here (λ e. absurd cc)
      | inr not_here ↦ rw not_here (λ e.
          let n : 1 + position_or_len p text ≡ suc (position_or_len p text) = omega arith in
          let shorter : drop (position_or_len p text) text ≡ [] = rw n at e in
          rw (n, split_whole p text shorter) refl)
    ]

pub split_front : (p : ℕ → Bool) (text : List ℕ) → 0 < length (drop (position_or_len p text) text)
    → slice_split p text ≡ take (position_or_len p text) text ∷ slice_split p (drop 1 (drop (position_or_len p text) text))
split_front p text some =
    let n = position_or_len p text in
    slice_split_first p text 0 (omega (arith, length-drop n text)) ∙ ap (λ (rest : List ℕ). take n text ∷ slice_split p rest) (sym (drop-drop 1 n text))

pub not_utf8 : (text : List ℕ) → (IsUtf8 text → ⊥) → is_utf8 text ≡ false
not_utf8 text never = elim (cases_Bool (is_utf8 text)) [ inl yes_it_is ↦ absurd (never (IsUtf8-from_is_utf8 text yes_it_is)) | inr not_it ↦ not_it ]

pub whole_at : (p : ℕ → Bool) (text front rest : List ℕ) (n : ℕ) → n ≡ position_or_len p text → front ≡ take n text → rest ≡ drop n text → length rest ≡ 0 → slice_split p text ≡ front ∷ []
whole_at p text front rest n count first last none =
    let gone : drop (position_or_len p text) text ≡ [] = rw (← count, ← last) (nil_from_length rest none) in
    rw (first, count) (split_whole p text gone)

pub front_at : (p : ℕ → Bool) (text front rest : List ℕ) (n : ℕ) → n ≡ position_or_len p text → front ≡ take n text → rest ≡ drop n text → 0 < length rest → slice_split p text ≡ front ∷ slice_split p (drop 1 rest)
front_at p text front rest n count first last some =
    let more : 0 < length (drop (position_or_len p text) text) = rw (← count, ← last) some in
    rw (first, last, count) (split_front p text more)
