-- Each value takes at least one byte, so a text has one reading.
use Rattle.std.proofs.Common.{◌≡◌, ℕ, suc, ◌+◌, ◌-◌, ◌<◌, Bool, true, false, cond, List, [], ◌∷◌, length, take, drop, Option, Some, None, Result, Ok, Err, refl, ap, subst, arith, length-drop}
use Rattle.std.specs.List.{position_or_len, prefix_len}
use Rattle.sec_ast.specs.declared.Part.{Part}
use Rattle.sec_text.specs.Readers.{ReadsAll}
use Rattle.sec_text.proofs.Readers.{one_reading, repeat-reads}
use Rattle.sec_parts.specs.declared.faults.Bad.{Bad}
use Rattle.sec_parts.specs.Macros.{begins_reference, macro_of, part_at, reference, text_len, with_rest}
use Rattle.sec_parts.specs.Texts.{to_byte}
use Rattle.sec_parts.specs.Phrases.{next_word, word_here, words_of}
use Rattle.sec_parts.specs.Phrases.{with_rest as behind_word}
use Rattle.sec_parts.proofs.MacroLaws.{some_text}
use Rattle.sec_parts.proofs.WordLaws.{some_before}

-- where a value is read at all, what is left is shorter
abbrev Shrinks : {A : Type 0} → List ℕ → Result (Option (A × List ℕ)) Bad → Type 0
Shrinks text (Ok (Some x)) = length x.1 < length text
Shrinks text (Ok None) = Unit {0}
Shrinks text (Err e) = Unit {0}

either : {A : Type 0} (text : List ℕ) (b : Bool) (x y : Result (Option (A × List ℕ)) Bad)
    → (b ≡ true → Shrinks text x) → (b ≡ false → Shrinks text y) → Shrinks text (cond b x y)
either text true x y f g = f refl
either text false x y f g = g refl

-- ---- macros

rest_shrinks : (text rest : List ℕ) (r : Result Part Bad) → length rest < length text → Shrinks text (with_rest rest r)
rest_shrinks text rest (Ok part) less = less
rest_shrinks text rest (Err fault) less = tt

part_at_shrinks : (text : List ℕ) → Shrinks text (part_at text)
unfolding part_at
part_at_shrinks [] = tt
part_at_shrinks (b ∷ rest) =
    let text = b ∷ rest in
    let close = to_byte 125 text in
    either text (begins_reference text) _ _
    (λ _. rest_shrinks text (drop (close + 1) text) (reference (take (close + 1) text) (take (close - 2) (drop 2 text))) (omega (arith, length-drop (close + 1) text)))
    (λ none. let some = some_text text (omega arith) none in omega (arith, some, length-drop (text_len text) text))

part_at_shorter : (text : List ℕ) (x : Part × List ℕ) → part_at text ≡ Ok (Some x) → length x.1 < length text
part_at_shorter text x e = subst (Shrinks text) e (part_at_shrinks text)

pub macro_is : (text : List ℕ) → ReadsAll part_at text (macro_of text)
unfolding macro_of
macro_is text = repeat-reads part_at (λ l. length l) part_at_shorter (suc (length text)) text (omega arith)

pub macro_only : (text : List ℕ) (answer : Result (List Part) Bad) → ReadsAll part_at text answer → answer ≡ macro_of text
macro_only text answer p = one_reading part_at text answer (macro_of text) p (macro_is text)

-- ---- words of an operator

word_rest_shrinks : (text rest : List ℕ) (r : Result (List ℕ) Bad) → length rest < length text → Shrinks text (behind_word rest r)
word_rest_shrinks text rest (Ok word) less = less
word_rest_shrinks text rest (Err fault) less = tt

module _ (parts : ℕ → Bool) (make : List ℕ → Result (List ℕ) Bad) where
  here_shrinks : (text here : List ℕ) → here ≡ drop (prefix_len parts text) text → Shrinks text (word_here parts make here)
  here_shrinks text [] e = tt
  here_shrinks text (b ∷ rest) e =
      let end = position_or_len parts (b ∷ rest) in
      let some = some_before parts text (b ∷ rest) e (omega arith) in
      let within = simp length-drop at (ap length e) in
      word_rest_shrinks text (drop end (b ∷ rest)) (make (take end (b ∷ rest))) (omega (arith, some, within, length-drop end (b ∷ rest)))

  word_shorter : (text : List ℕ) (x : List ℕ × List ℕ) → next_word parts make text ≡ Ok (Some x) → length x.1 < length text
  word_shorter text x e = subst (Shrinks text) e (here_shrinks text (drop (prefix_len parts text) text) refl)

  pub words_are : (text : List ℕ) → ReadsAll (next_word parts make) text (words_of parts make text)
  words_are text = repeat-reads (next_word parts make) (λ l. length l) word_shorter (suc (length text)) text (omega arith)
