-- What stays settled where an inner node changes, and the tree of places that are all free.
use Rattle.std.proofs.Common.{◌≡◌, ◌≢◌, ℕ, zero, suc, ◌+◌, ◌-◌, ◌*◌, ◌/◌, ◌^◌, ◌<◌, ◌≤◌, cond, nat_lt, List, length}
use Rattle.std.proofs.Common.{get_or, set, replicate, count_by, is_some, Option, None, refl, sym, ap, ◌∙◌, subst}
use Rattle.std.proofs.Common.{inl, inr}
use Rattle.std.proofs.Common.{arith, get_or-set_same, get_or-set_other}
use Rattle.std.proofs.lemmas.Bool.{cases_lt, cases_eq}
use Rattle.std.proofs.Math.ListN.{length-set}
use Rattle.std.proofs.lemmas.List.{length-replicate}
use Rattle.due_index.proofs.Counts.{count_free}
use Rattle.due_index.specs.Due.{Held, Due}
use Rattle.due_index.specs.Tree.{sooner, placed, leaf, inner_node, node, below, Fits, IsSettled, IsSettledBut, IsIndex}
use Rattle.due_index.proofs.Nodes.{inner, outer}

module _ (held : Held) (firsts : List (Option Due)) (at : ℕ) (o : Option Due) where
  same_node : (i : ℕ) → i ≢ at → node held (set firsts at o) i ≡ node held firsts i
  same_node i ne =
      ap (λ z. cond (nat_lt i (length held)) z (leaf held (i - length held))) (get_or-set_other firsts at i o None ne)

  same_below : (i : ℕ) → 2 * i ≢ at → 2 * i + 1 ≢ at → below held (set firsts at o) i ≡ below held firsts i
  same_below i left right =
      ap (λ z. sooner z (node held (set firsts at o) (2 * i + 1))) (same_node (2 * i) left)
      ∙ ap (sooner (node held firsts (2 * i))) (same_node (2 * i + 1) right)

  pub settles : Fits held firsts → 1 ≤ at → at < length held → IsSettledBut held firsts at → o ≡ below held firsts at
      → IsSettledBut held (set firsts at o) (at / 2)
  settles fits ge lt rest is i i_ge i_lt ne =
      let same = same_below i (λ e. ne (omega arith)) (λ e. ne (omega arith)) in
      elim (cases_eq i at) [
        | inl e ↦
            let len : length firsts ≡ length held = fits.same in
            let set_here : get_or (set firsts at o) at None ≡ o = get_or-set_same firsts at o None (omega arith) in
            let here : get_or (set firsts at o) i None ≡ o = ap (inner_node (set firsts at o)) e ∙ set_here in
            here ∙ is ∙ sym (same ∙ ap (below held firsts) e)
        | inr other ↦ get_or-set_other firsts at i o None other ∙ rest i i_ge i_lt other ∙ sym same
      ]

  pub fits_set : Fits held firsts → Fits held (set firsts at o)
  fits_set fits = record { small = fits.small; same = length-set firsts at o ∙ fits.same }

-- all places are free
get_free : {A : Type 0} (n i : ℕ) → get_or (replicate {A = Option A} n None) i None ≡ None
get_free zero i = refl
get_free (suc n) zero = refl
get_free (suc n) (suc i) = get_free n i

node_free : (n i : ℕ) → node (replicate n None) (replicate n None) i ≡ None
node_free n i = let held : Held = replicate n None in elim (cases_lt i (length held)) [
  | inl less ↦ inner held (replicate n None) i less ∙ get_free n i
  | inr more ↦ let p = i - length held in outer held (replicate n None) i more ∙ ap (λ o. placed o p) (get_free n p)
]

free_settled : (n : ℕ) → IsSettled (replicate n None) (replicate n None)
free_settled n i ge lt ne =
    let left = node_free n (2 * i) in let right = node_free n (2 * i + 1) in
    get_free n i ∙ sym (ap (λ z. sooner z (node (replicate n None) (replicate n None) (2 * i + 1))) left ∙ right)

pub free_index : (n : ℕ) (held : Held) (firsts : List (Option Due)) → n < 2 ^ 32
    → held ≡ replicate n None → firsts ≡ replicate n None → IsIndex held firsts 0
free_index n held firsts few h f = (
  record { small = (let l = len h in omega arith); same = len f ∙ sym (len h) },
  subst (λ (x : Held). IsSettled x firsts) (sym h) (subst (IsSettled (replicate n None)) (sym f) (free_settled n)),
  sym (ap (count_by is_some) h ∙ count_free (ℕ × ℕ) n),
)
  where
    len : {A : Type 0} {xs : List (Option A)} → xs ≡ replicate n None → length xs ≡ n
    len e = ap length e ∙ length-replicate n None
