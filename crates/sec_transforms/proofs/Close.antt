-- The first `*/` of a text, found by place and by going along.
use Rattle.std.proofs.Common.{◌≡◌, ℕ, zero, suc, ◌+◌, ◌<◌, List, [], ◌∷◌, length, Bool, true, false, cond, refl, ap, ◌∙◌, arith}
use Rattle.std.specs.Prelude.{slice_index, ◌&&◌}
use Rattle.std.specs.Bool.{◌==◌}
use Rattle.std.proofs.lemmas.Bool.Decides.{nat_tests}
use Rattle.memchr.specs.Find.{OccursAt, Nowhere}
use Rattle.sec_transforms.specs.Comments.{to_close}

abbrev closing : List ℕ
closing = 42 ∷ 47 ∷ []

shorter : (a : ℕ) (xs needle : List ℕ) (k : ℕ) → OccursAt (a ∷ xs) needle (suc k) → OccursAt xs needle k
shorter a xs needle k o = record {
  fits = omega (arith, o.fits);
  reads = λ j below. (let e : suc (k + j) ≡ suc k + j = omega arith in ap (slice_index (a ∷ xs)) e ∙ o.reads j below);
}

pub longer : (a : ℕ) (xs needle : List ℕ) (k : ℕ) → OccursAt xs needle k → OccursAt (a ∷ xs) needle (suc k)
longer a xs needle k o = record {
  fits = omega (arith, o.fits);
  reads = λ j below. (let e : suc k + j ≡ suc (k + j) = omega arith in ap (slice_index (a ∷ xs)) e ∙ o.reads j below);
}

both : (a b : ℕ) → (a == 42 && b == 47) ≡ true → (a ≡ 42) × (b ≡ 47)
both a b e = grind (arith, nat_tests, e)

read_two : (a b : ℕ) (rest : List ℕ) → a ≡ 42 → b ≡ 47 → (j : ℕ) → j < 2 → slice_index (a ∷ b ∷ rest) (0 + j) ≡ slice_index closing j
read_two a b rest first second zero below = first
read_two a b rest first second (suc zero) below = second
read_two a b rest first second (suc (suc j)) below = absurd (omega arith)

here : (a b : ℕ) (rest : List ℕ) → (a == 42 && b == 47) ≡ true → OccursAt (a ∷ b ∷ rest) closing 0
here a b rest e = let two = both a b e in record {
  fits = omega arith;
  reads = read_two a b rest two.0 two.1;
}

is_here : (a b : ℕ) (rest : List ℕ) → OccursAt (a ∷ b ∷ rest) closing 0 → (a == 42 && b == 47) ≡ true
is_here a b rest o =
    let first : a ≡ 42 = o.reads 0 (omega arith) in
    let second : b ≡ 47 = o.reads 1 (omega arith) in
    rw (first, second) refl

pub closes : (k : ℕ) (xs : List ℕ) → OccursAt xs closing k → Nowhere (OccursAt xs closing) 0 k → k + 2 ≡ to_close xs
unfolding to_close
closes k [] o before = absurd (omega (arith, o.fits))
closes k (a ∷ []) o before = absurd (omega (arith, o.fits))
closes zero (a ∷ b ∷ rest) o before = rw (is_here a b rest o) refl
closes (suc k) (a ∷ b ∷ rest) o before =
    let test = (a == 42 && b == 47) in
    let after = closes k (b ∷ rest) (shorter a (b ∷ rest) closing k o) (λ j low high p. before (suc j) (omega arith) (omega arith) (longer a (b ∷ rest) closing j p)) in
    (elim test as (λ (t : Bool). test ≡ t → suc k + 2 ≡ cond t 2 (1 + to_close (b ∷ rest))) [
      | true ↦ λ e. absurd (before 0 (omega arith) (omega arith) (here a b rest e))
      | false ↦ λ e. omega (arith, after)
    ]) refl

pub unclosed : (xs : List ℕ) → ((k : ℕ) → ¬ OccursAt xs closing k) → length xs ≡ to_close xs
unfolding to_close
unclosed [] none = refl
unclosed (a ∷ []) none = refl
unclosed (a ∷ b ∷ rest) none =
    let test = (a == 42 && b == 47) in
    let after = unclosed (b ∷ rest) (λ j p. none (suc j) (longer a (b ∷ rest) closing j p)) in
    (elim test as (λ (t : Bool). test ≡ t → length (a ∷ b ∷ rest) ≡ cond t 2 (1 + to_close (b ∷ rest))) [
      | true ↦ λ e. absurd (none 0 (here a b rest e))
      | false ↦ λ e. omega (arith, after)
    ]) refl
