-- Words that are parted by separators.
use Rattle.std.proofs.Common.{◌≡◌, ℕ, suc, ◌<◌, Bool, List, [], ◌∷◌, ◌++◌, length, drop, refl, sym, ap, subst, ◌∙◌, inl, inr, arith, append_assoc}
use Rattle.std.specs.List.{concat, position_or_len, prefix_len}
use Rattle.std.proofs.lemmas.Bool.{cases_Bool}
use Rattle.std.proofs.lemmas.List.{append-nil}

-- behind the separators at the front, a word has at least one byte
begins : (p : ℕ → Bool) (text : List ℕ) → 0 < length (drop (prefix_len p text) text) → 0 < position_or_len p (drop (prefix_len p text) text)
begins p [] some = absurd (omega arith)
begins p (b ∷ text) some =
    elim (cases_Bool (p b)) [
      | inl is ↦
          let skip : prefix_len p (b ∷ text) ≡ suc (prefix_len p text) = rw is (omega arith) in
          let later : 0 < length (drop (prefix_len p text) text) = rw skip at some in
          rw skip (begins p text later)
      | inr not_is ↦
          let stay : prefix_len p (b ∷ text) ≡ 0 = rw not_is refl in
          rw (stay, not_is) (omega arith)
    ]

pub some_before : (p : ℕ → Bool) (text here : List ℕ) → here ≡ drop (prefix_len p text) text → 0 < length here → 0 < position_or_len p here
some_before p text here same some =
    let first : 0 < length (drop (prefix_len p text) text) = subst (λ (l : List ℕ). 0 < length l) same some in
    subst (λ (l : List ℕ). 0 < position_or_len p l) (sym same) (begins p text first)

-- one more piece at the end
pub concat_push : (pieces : List (List ℕ)) (piece : List ℕ) → concat (pieces ++ piece ∷ []) ≡ concat pieces ++ piece
concat_push [] piece = append-nil piece
concat_push (first ∷ pieces) piece = ap (λ (l : List ℕ). first ++ l) (concat_push pieces piece) ∙ sym (append_assoc first (concat pieces) piece)
