-- A path without a slash.
use Rattle.std.proofs.Common.{◌≡◌, ℕ, ◌<◌, true, false, Bool, List, [], ◌∷◌, length, All, refl, sym, ap, ◌∙◌, arith, append-nil}
use Rattle.std.specs.Prelude.{slice_index, ◌&&◌}
use Rattle.std.specs.Bool.{◌==◌}
use Rattle.std.specs.List.{fold, slice_split}
use Rattle.std.proofs.lemmas.List.Splits.{slice_split_none}
use Rattle.std.proofs.lemmas.List.{get_or_default}
use Rattle.memchr.specs.Find.{Nowhere, Passes, is_byte}
use Rattle.sec_transforms.proofs.Joins.{path_is}
use Rattle.sec_transforms.specs.NormalizePath.{after, left_of, path}

not_true : (t : Bool) → (t ≡ true → ⊥) → t ≡ false
not_true true absent = absurd (absent refl)
not_true false absent = refl

no_slash : (xs : List ℕ) → Nowhere (Passes (is_byte 47) xs) 0 (length xs) → All (λ b. (b == 47) ≡ false) xs
no_slash xs none = λ k d below. rw (get_or_default xs k d 0 below) (not_true (slice_index xs k == 47) (none k (omega arith) below))

named : (a b : ℕ) (rest : List ℕ) → after false ([], false) (a ∷ b ∷ rest) ≡ ((a ∷ b ∷ rest) ∷ [], false)
named a b [] =
    let test = (a == 46 && b == 46) in
    (elim test as (λ (t : Bool). test ≡ t → after false ([], false) (a ∷ b ∷ []) ≡ ((a ∷ b ∷ []) ∷ [], false)) [
      | true ↦ λ e. rw e refl
      | false ↦ λ e. rw e refl
    ]) refl
named a b (c ∷ rest) = refl

pub one_name : (xs : List ℕ) → 1 < length xs → Nowhere (Passes (is_byte 47) xs) 0 (length xs) → path xs ≡ xs
one_name [] long none = absurd (omega arith)
one_name (a ∷ []) long none = absurd (omega arith)
one_name (a ∷ b ∷ rest) long none =
    let xs = a ∷ b ∷ rest in
    let root : (a == 47) ≡ false = not_true (a == 47) (none 0 (omega arith) (omega arith)) in
    let pieces = slice_split_none (λ (c : ℕ). c == 47) xs (no_slash xs none) in
    let split = slice_split (λ (c : ℕ). c == 47) xs in
    let left : left_of xs ≡ (xs ∷ [], false) =
    ap (λ (r : Bool). fold (after r) ([], false) split) root ∙ ap (fold (after false) ([], false)) pieces ∙ named a b rest in
    sym (path_is xs xs false false (xs ∷ []) (sym root) (sym left) (sym (append-nil xs)))
