-- The number at the front, as a function, is its spelling.
use Rattle.std.proofs.Common.{◌≡◌, inl, inr, ℕ, ◌<◌, List, ◌++◌, length, take, drop, Some, refl, sym, ◌∙◌, ap, subst, arith, take-append-drop}
use Rattle.std.proofs.lemmas.Bool.{cases_lt}
use Rattle.std.proofs.lemmas.List.{drop_at, get_or_past}
use Rattle.std.proofs.lemmas.List.Elements.{All-get_or}
use Rattle.std.specs.List.{All}
use Rattle.spop_varint.specs.declared.read.Varint as answers
use Rattle.spop_varint.specs.declared.read.Varint.TheVariants.{Read, Short, TooLarge}
use Rattle.spop_varint.specs.Varint.{Spells}
use Rattle.spop_varint.specs.Reading.{split_by, split_number}
use Rattle.spop_varint.proofs.Laws.{IsBytes, Answers, number_answers, again}

pub split_again : (spelling rest : List ℕ) (v : ℕ) → Spells spelling v → split_number (spelling ++ rest) ≡ Some (v, rest)
split_again spelling rest v s =
    ap (λ (x : answers.Varint). split_by x (spelling ++ rest)) (again spelling rest v s)
    ∙ ap (λ (l : List ℕ). Some (v, l)) (drop_at spelling rest (length spelling) refl)

split_found : (bytes rest : List ℕ) (v : ℕ) (answer : answers.Varint) → Answers bytes answer → split_by answer bytes ≡ Some (v, rest)
    → (spelling : List ℕ) × Spells spelling v × (bytes ≡ spelling ++ rest)
split_found bytes rest v (Read w n) f e =
    let both : (w, drop n bytes) ≡ (v, rest) = cc e in
    let value : w ≡ v = ap (λ (p : ℕ × List ℕ). p.0) both in
    let left : drop n bytes ≡ rest = ap (λ (p : ℕ × List ℕ). p.1) both in
    (take n bytes, subst (λ (x : ℕ). Spells (take n bytes) x) value f.1, sym (take-append-drop n bytes) ∙ ap (λ (l : List ℕ). take n bytes ++ l) left)
split_found bytes rest v Short f e = absurd (cc e)
split_found bytes rest v TooLarge f e = absurd (cc e)

are_bytes : (bytes : List ℕ) → All (λ b. b < 256) bytes → IsBytes bytes
are_bytes bytes all i = elim (cases_lt i (length bytes)) [
  | inl within ↦ All-get_or (λ b. b < 256) bytes i 0 within all
  | inr behind ↦ omega (arith, get_or_past bytes i 0 behind)
]

pub split_spells : (bytes rest : List ℕ) (v : ℕ) → All (λ b. b < 256) bytes → split_number bytes ≡ Some (v, rest)
    → (spelling : List ℕ) × Spells spelling v × (bytes ≡ spelling ++ rest)
split_spells bytes rest v all e = split_found bytes rest v _ (number_answers bytes (are_bytes bytes all)) e
