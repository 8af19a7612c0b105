-- Texts of which nothing changes.
use Rattle.std.proofs.Common.{◌≡◌, ℕ, zero, suc, ◌+◌, ◌<◌, true, false, Bool, List, [], ◌∷◌, length, map, refl, sym, subst, ap, ◌∙◌, arith}
use Rattle.std.specs.Prelude.{slice_index, ◌&&◌}
use Rattle.std.specs.Bool.{◌==◌}
use Rattle.std.specs.Char.{to_ascii_lowercase}
use Rattle.std.proofs.lemmas.Bool.Decides.{nat_tests}
use Rattle.memchr.specs.Find.{Nowhere, Passes, OccursAt, is_byte3}
use Rattle.sec_decoders.specs.Pieces.{pieces}
use Rattle.sec_decoders.proofs.Kept.{keeps_one}
use Rattle.sec_transforms.specs.CmdLine.{is_mark, spaced, closes, squeezed, closed_up, tidied, spread, cmd_line}
use Rattle.sec_transforms.specs.Whitespace.{is_wide, run}
use Rattle.sec_transforms.proofs.Close.{longer}

not_true : (t : Bool) → (t ≡ true → ⊥) → t ≡ false
not_true true absent = absurd (absent refl)
not_true false absent = refl

-- none of three bytes, or no two bytes one after the other, stand in a text
abbrev pub LacksBytes : ℕ → ℕ → ℕ → List ℕ → Type 0
LacksBytes a b c text = Nowhere (Passes (is_byte3 a b c) text) 0 (length text)

abbrev pub LacksPair : ℕ → ℕ → List ℕ → Type 0
LacksPair a b text = Nowhere (OccursAt text (a ∷ b ∷ [])) 0 (length text + 1)

fewer : (a b c x : ℕ) (xs : List ℕ) → LacksBytes a b c (x ∷ xs) → LacksBytes a b c xs
fewer a b c x xs none = λ k low high. none (suc k) (omega arith) (omega (arith, high))

fewer_pairs : (a b x : ℕ) (xs : List ℕ) → LacksPair a b (x ∷ xs) → LacksPair a b xs
fewer_pairs a b x xs none = λ k low high o. none (suc k) (omega arith) (omega (arith, high)) (longer x xs (a ∷ b ∷ []) k o)

read_two : (x y : ℕ) (rest : List ℕ) (a b : ℕ) → x ≡ a → y ≡ b → (j : ℕ) → j < 2 → slice_index (x ∷ y ∷ rest) (0 + j) ≡ slice_index (a ∷ b ∷ []) j
read_two x y rest a b first second zero below = first
read_two x y rest a b first second (suc zero) below = second
read_two x y rest a b first second (suc (suc j)) below = absurd (omega arith)

no_pair : (x y : ℕ) (rest : List ℕ) (a b : ℕ) → LacksPair a b (x ∷ y ∷ rest) → (x == a && y == b) ≡ false
no_pair x y rest a b none = not_true (x == a && y == b) (λ e.
    let first : x ≡ a = grind (arith, nat_tests, e) in
    let second : y ≡ b = grind (arith, nat_tests, e) in
    none 0 (omega arith) (omega arith) record { fits = omega arith; reads = read_two x y rest a b first second })

-- ---- whitespace

narrow : (c : ℕ) → is_byte3 9 10 13 c ≡ false → is_byte3 11 12 160 c ≡ false → (c == 32) ≡ false → is_wide c ≡ false
narrow c one two three = grind (arith, nat_tests, one, two, three)

alone : (b : ℕ) (bs : List ℕ) → LacksBytes 9 10 13 (b ∷ bs) → LacksBytes 11 12 160 (b ∷ bs) → LacksPair 32 32 (b ∷ bs) → run (b ∷ bs) ≡ (b ∷ [], 1)
alone b [] one two pairs =
    let first = not_true (is_byte3 9 10 13 b) (one 0 (omega arith) (omega arith)) in
    let second = not_true (is_byte3 11 12 160 b) (two 0 (omega arith) (omega arith)) in
    let test = (b == 32) in
    (elim test as (λ (t : Bool). test ≡ t → run (b ∷ []) ≡ (b ∷ [], 1)) [
      | true ↦ λ e. (let is : b ≡ 32 = grind (arith, nat_tests, e) in subst (λ (n : ℕ). run (n ∷ []) ≡ (n ∷ [], 1)) (sym is) refl)
      | false ↦ λ e. rw (narrow b first second e) refl
    ]) refl
alone b (c ∷ rest) one two pairs =
    let first = not_true (is_byte3 9 10 13 b) (one 0 (omega arith) (omega arith)) in
    let second = not_true (is_byte3 11 12 160 b) (two 0 (omega arith) (omega arith)) in
    let next = not_true (is_byte3 9 10 13 c) (one 1 (omega arith) (omega arith)) in
    let later = not_true (is_byte3 11 12 160 c) (two 1 (omega arith) (omega arith)) in
    let apart = no_pair b c rest 32 32 pairs in
    let test = (b == 32) in
    (elim test as (λ (t : Bool). test ≡ t → run (b ∷ c ∷ rest) ≡ (b ∷ [], 1)) [
      | true ↦ λ e. (let is : b ≡ 32 = grind (arith, nat_tests, e) in
          let other : (c == 32) ≡ false = grind (arith, nat_tests, e, apart) in
          let here : run (32 ∷ c ∷ rest) ≡ (32 ∷ [], 1) = rw (narrow c next later other) refl in
          subst (λ (n : ℕ). run (n ∷ c ∷ rest) ≡ (n ∷ [], 1)) (sym is) here)
      | false ↦ λ e. rw (narrow b first second e) refl
    ]) refl

pub tidy : (xs : List ℕ) → LacksBytes 9 10 13 xs → LacksBytes 11 12 160 xs → LacksPair 32 32 xs → pieces run 0 xs ≡ xs
unfolding pieces
tidy [] one two pairs = refl
tidy (b ∷ bs) one two pairs =
    keeps_one run b bs (alone b bs one two pairs)
    ∙ ap (λ (l : List ℕ). b ∷ l) (tidy bs (fewer 9 10 13 b bs one) (fewer 11 12 160 b bs two) (fewer_pairs 32 32 b bs pairs))

-- ---- command lines

pub squeezed_same : (xs : List ℕ) → LacksPair 32 32 xs → squeezed xs ≡ xs
unfolding squeezed
squeezed_same [] pairs = refl
squeezed_same (a ∷ []) pairs = refl
squeezed_same (a ∷ b ∷ rest) pairs =
    rw (no_pair a b rest 32 32 pairs) (ap (λ (l : List ℕ). a ∷ l) (squeezed_same (b ∷ rest) (fewer_pairs 32 32 a (b ∷ rest) pairs)))

no_closing : (a b : ℕ) (rest : List ℕ) → LacksPair 32 47 (a ∷ b ∷ rest) → LacksPair 32 40 (a ∷ b ∷ rest) → (a == 32 && closes b) ≡ false
no_closing a b rest one two =
    let slash = no_pair a b rest 32 47 one in
    let paren = no_pair a b rest 32 40 two in
    grind (arith, nat_tests, slash, paren)

pub closed_same : (xs : List ℕ) → LacksPair 32 47 xs → LacksPair 32 40 xs → closed_up xs ≡ xs
unfolding closed_up
closed_same [] one two = refl
closed_same (a ∷ []) one two = refl
closed_same (a ∷ b ∷ rest) one two =
    rw (no_closing a b rest one two) (ap (λ (l : List ℕ). a ∷ l) (closed_same (b ∷ rest) (fewer_pairs 32 47 a (b ∷ rest) one) (fewer_pairs 32 40 a (b ∷ rest) two)))

pub spaces_same : (xs : List ℕ) → LacksPair 32 32 xs → LacksPair 32 47 xs → LacksPair 32 40 xs → closed_up (squeezed xs) ≡ xs
spaces_same xs pairs one two = ap closed_up (squeezed_same xs pairs) ∙ closed_same xs one two

no_mark : (c : ℕ) → is_byte3 92 34 39 c ≡ false → is_byte3 94 44 59 c ≡ false → is_mark c ≡ false
no_mark c one two = grind (arith, nat_tests, one, two)

no_blank : (c : ℕ) → is_byte3 94 44 59 c ≡ false → is_byte3 9 10 13 c ≡ false → spaced c ≡ c
no_blank c one two = grind (arith, nat_tests, one, two)

spread_same : (xs : List ℕ) → LacksBytes 92 34 39 xs → LacksBytes 94 44 59 xs → LacksBytes 9 10 13 xs → spread xs ≡ xs
spread_same [] one two three = refl
spread_same (c ∷ rest) one two three =
    let first = not_true (is_byte3 92 34 39 c) (one 0 (omega arith) (omega arith)) in
    let second = not_true (is_byte3 94 44 59 c) (two 0 (omega arith) (omega arith)) in
    let third = not_true (is_byte3 9 10 13 c) (three 0 (omega arith) (omega arith)) in
    let later = spread_same rest (fewer 92 34 39 c rest one) (fewer 94 44 59 c rest two) (fewer 9 10 13 c rest three) in
    let front : spread (c ∷ rest) ≡ spaced c ∷ spread rest = rw (no_mark c first second) refl in
    front ∙ ap (λ (n : ℕ). n ∷ spread rest) (no_blank c second third) ∙ ap (λ (l : List ℕ). c ∷ l) later

pub quiet : (xs : List ℕ) → LacksBytes 92 34 39 xs → LacksBytes 94 44 59 xs → LacksBytes 9 10 13 xs → closed_up (squeezed xs) ≡ xs → cmd_line xs ≡ map to_ascii_lowercase xs
quiet xs one two three same = ap tidied (spread_same xs one two three) ∙ ap (map to_ascii_lowercase) same
