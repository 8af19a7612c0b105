-- A text and its pieces, one after the other.
use Rattle.std.proofs.Common.{◌≡◌, ℕ, ◌+◌, ◌<◌, ◌≤◌, Bool, false, cond, List, [], ◌∷◌, ◌++◌, length, drop, sym, ap, ◌∙◌, arith, Option, Some, None, append_assoc, inl, inr}
use Rattle.std.specs.Bool.{◌==◌}
use Rattle.std.specs.List.{All, flat_map, position_or_len}
use Rattle.std.specs.Option.{option_map}
use Rattle.std.proofs.lemmas.Bool.{cases_lt, le-ltb, lt-ltb}
use Rattle.std.proofs.lemmas.List.{length-drop, take_all}
use Rattle.std.proofs.lemmas.List.Splits.{slice_split_first, slice_split_none}
use Rattle.std.proofs.lemmas.List.Sums.{fails_before_first}
use Rattle.web_parts.specs.Pieces.{before, behind, pieces}

-- the pieces of the text that is left, if one is
abbrev pub pieces_in : ℕ → Option (List ℕ) → List (List ℕ)
pieces_in mark None = []
pieces_in mark (Some text) = pieces mark text

-- one more than the bytes that are left
abbrev pub size_of : Option (List ℕ) → ℕ
size_of None = 0
size_of (Some text) = length text + 1

behind_some : (mark : ℕ) (text : List ℕ) → position_or_len (λ b. b == mark) text < length text → behind mark text ≡ Some (drop (position_or_len (λ b. b == mark) text + 1) text)
behind_some mark text less =
    let place = position_or_len (λ (b : ℕ). b == mark) text in
    ap (λ (c : Bool). option_map (λ (k : ℕ). drop (k + 1) text) (cond c (Some place) None)) (lt-ltb place (length text) less)

behind_none : (mark : ℕ) (text : List ℕ) → length text ≤ position_or_len (λ b. b == mark) text → behind mark text ≡ None
behind_none mark text more =
    let place = position_or_len (λ (b : ℕ). b == mark) text in
    ap (λ (c : Bool). option_map (λ (k : ℕ). drop (k + 1) text) (cond c (Some place) None)) (le-ltb place (length text) more)

-- the first piece ends at the first mark
pub pieces_cut : (mark : ℕ) (text : List ℕ) → pieces mark text ≡ before mark text ∷ pieces_in mark (behind mark text)
pieces_cut mark text =
    let p : ℕ → Bool = λ b. b == mark in
    elim (cases_lt (position_or_len p text) (length text)) as (λ _. pieces mark text ≡ before mark text ∷ pieces_in mark (behind mark text)) [
      | inl less ↦ slice_split_first p text 0 less ∙ ap (λ (o : Option (List ℕ)). before mark text ∷ pieces_in mark o) (sym (behind_some mark text less))
      | inr more ↦
          let fails : All (λ b. p b ≡ false) text = λ k d within. fails_before_first p text k d (omega arith) in
          slice_split_none p text fails
          ∙ ap (λ (front : List ℕ). front ∷ []) (sym (take_all (position_or_len p text) text more))
          ∙ ap (λ (o : Option (List ℕ)). before mark text ∷ pieces_in mark o) (sym (behind_none mark text more))
    ]

size_behind : (mark : ℕ) (text : List ℕ) → size_of (behind mark text) < length text + 1
size_behind mark text =
    let p : ℕ → Bool = λ b. b == mark in
    elim (cases_lt (position_or_len p text) (length text)) as (λ _. size_of (behind mark text) < length text + 1) [
      | inl less ↦ rw (behind_some mark text less) (omega (arith, length-drop (position_or_len p text + 1) text))
      | inr more ↦ rw (behind_none mark text more) (omega arith)
    ]

pub smaller : (mark : ℕ) (text : List ℕ) (rest : Option (List ℕ)) → rest ≡ behind mark text → size_of rest < length text + 1
smaller mark text rest is = rw is (size_behind mark text)

-- what the first piece gives, and then the others
pub turn : {R : Type 0} (f : List ℕ → List R) (mark : ℕ) (rows new whole : List R) (text line : List ℕ) (rest : Option (List ℕ)) →
    rows ++ flat_map f (pieces mark text) ≡ whole → line ≡ before mark text → rest ≡ behind mark text → new ≡ rows ++ f line → new ++ flat_map f (pieces_in mark rest) ≡ whole
turn {R} f mark rows new whole text line rest left line_is rest_is is =
    let step : rows ++ (f (before mark text) ++ flat_map f (pieces_in mark (behind mark text))) ≡ whole =
    ap (λ (l : List (List ℕ)). rows ++ flat_map f l) (sym (pieces_cut mark text)) ∙ left in
    rw (is, line_is, rest_is, append_assoc) step
