-- Bytes that stand for themselves.
use Rattle.std.proofs.Common.{◌≡◌, ℕ, zero, suc, ◌+◌, ◌<◌, ◌≤◌, true, false, List, [], ◌∷◌, length, filter, None, refl, ap, ◌∙◌, arith}
use Rattle.std.specs.Prelude.{slice_index, Bool, ◌&&◌}
use Rattle.std.specs.Bool.{◌==◌}
use Rattle.std.specs.List.{take_while}
use Rattle.std.proofs.lemmas.Bool.Decides.{nat_tests}
use Rattle.memchr.specs.Find.{Nowhere, Passes, OccursAt, is_byte}
use Rattle.sec_decoders.specs.Pieces.{KeepsFront}
use Rattle.sec_decoders.proofs.Kept.{while_front, keeps_one}
use Rattle.sec_transforms.specs.Alphabets.{is_not_null}
use Rattle.sec_transforms.specs.Comments.{begins_no_mark, html_open, html_close, two_marks, is_pair, comment_marks, comments}
use Rattle.sec_transforms.proofs.Close.{longer}

pub no_nulls : (xs : List ℕ) → Nowhere (Passes (is_byte 0) xs) 0 (length xs) → filter is_not_null xs ≡ xs
no_nulls [] none = refl
no_nulls (b ∷ bs) none =
    let test = (b == 0) in
    let later = no_nulls bs (λ k low high. none (suc k) (omega arith) (omega (arith, high))) in
    (elim test as (λ (t : Bool). test ≡ t → filter is_not_null (b ∷ bs) ≡ b ∷ bs) [
      | true ↦ λ e. absurd (none 0 (omega arith) (omega arith) e)
      | false ↦ λ e. rw e (ap (λ (l : List ℕ). b ∷ l) later)
    ]) refl

read_two : (a b : ℕ) (rest : List ℕ) → a ≡ 47 → b ≡ 42 → (j : ℕ) → j < 2 → slice_index (a ∷ b ∷ rest) (0 + j) ≡ slice_index (47 ∷ 42 ∷ []) j
read_two a b rest first second zero below = first
read_two a b rest first second (suc zero) below = second
read_two a b rest first second (suc (suc j)) below = absurd (omega arith)

opens : (a b : ℕ) (rest : List ℕ) → (a == 47 && b == 42) ≡ true → OccursAt (a ∷ b ∷ rest) (47 ∷ 42 ∷ []) 0
opens a b rest e =
    let first : a ≡ 47 = grind (arith, nat_tests, e) in
    let second : b ≡ 42 = grind (arith, nat_tests, e) in record {
      fits = omega arith;
      reads = read_two a b rest first second;
    }

no_comment : (b : ℕ) (bs : List ℕ) → ¬ OccursAt (b ∷ bs) (47 ∷ 42 ∷ []) 0 → comments (b ∷ bs) ≡ (b ∷ [], 1)
no_comment b [] none = refl
no_comment b (c ∷ rest) none =
    let test = (b == 47 && c == 42) in
    (elim test as (λ (t : Bool). test ≡ t → comments (b ∷ c ∷ rest) ≡ (b ∷ [], 1)) [
      | true ↦ λ e. absurd (none (opens b c rest e))
      | false ↦ λ e. rw e refl
    ]) refl

pub comments_kept : (n : ℕ) (xs : List ℕ) → n ≤ length xs → Nowhere (OccursAt xs (47 ∷ 42 ∷ [])) 0 n → KeepsFront comments n xs
comments_kept zero xs fits none = refl
comments_kept (suc n) [] fits none = absurd (omega arith)
comments_kept (suc n) (b ∷ bs) fits none =
    let later = comments_kept n bs (omega (arith, fits)) (λ k low high o. none (suc k) (omega arith) (omega (arith, high)) (longer b bs (47 ∷ 42 ∷ []) k o)) in
    keeps_one comments b bs (no_comment b bs (none 0 (omega arith) (omega arith))) ∙ ap (λ (l : List ℕ). b ∷ l) later

open_none : (b : ℕ) (bs : List ℕ) → (b == 60) ≡ false → html_open (b ∷ bs) ≡ None
open_none b [] e = refl
open_none b (c ∷ []) e = refl
open_none b (c ∷ d ∷ []) e = refl
open_none b (c ∷ d ∷ f ∷ rest) e = rw e refl

close_none : (b : ℕ) (bs : List ℕ) → (b == 45) ≡ false → html_close (b ∷ bs) ≡ None
close_none b [] e = refl
close_none b (c ∷ []) e = refl
close_none b (c ∷ d ∷ rest) e = rw e refl

no_pair : (b c : ℕ) → begins_no_mark b ≡ true → is_pair b c ≡ false
no_pair b c e = grind (arith, nat_tests, e)

pair_none : (b : ℕ) (bs : List ℕ) → begins_no_mark b ≡ true → two_marks (b ∷ bs) ≡ None
pair_none b [] e = refl
pair_none b (c ∷ rest) e = rw (no_pair b c e) refl

mark_stands : (b : ℕ) (bs : List ℕ) → begins_no_mark b ≡ true → comment_marks (b ∷ bs) ≡ (b ∷ [], 1)
mark_stands b bs e =
    let no_less : (b == 60) ≡ false = grind (arith, nat_tests, e) in
    let no_minus : (b == 45) ≡ false = grind (arith, nat_tests, e) in
    let no_hash : (b == 35) ≡ false = grind (arith, nat_tests, e) in
    rw (open_none b bs no_less, close_none b bs no_minus, pair_none b bs e, no_hash) refl

pub marks_kept : (n : ℕ) (xs : List ℕ) → n ≡ length (take_while begins_no_mark xs) → KeepsFront comment_marks n xs
marks_kept = while_front comment_marks begins_no_mark mark_stands
