-- What stands at the root of the tree.
use Rattle.std.proofs.Common.{◌≡◌, ℕ, zero, suc, ◌+◌, ◌-◌, ◌*◌, ◌/◌, ◌<◌, ◌≤◌, Bool, cond, ◌⊎◌, List}
use Rattle.std.proofs.Common.{length, Option, Some}
use Rattle.std.proofs.Common.{None, refl, sym, ap, ◌∙◌, subst, inl, inr, arith}
use Rattle.std.proofs.lemmas.Bool.{cases_lt, lt-ltb, le-ltb}
use Rattle.std.proofs.Math.ListN.{get_or-eq_default}
use Rattle.due_index.specs.Due.{Held, Due, held_at, Holds, IsLeast}
use Rattle.due_index.specs.Tree.{sooner, placed, leaf, inner_node, node, below, IsSettled}
use Rattle.due_index.proofs.Firsts.{none_some, NotBefore, not_before_self, not_before_left, not_before_right}
use Rattle.due_index.proofs.Firsts.{sooner_one}

half : (i : ℕ) → (i ≡ 2 * (i / 2)) ⊎ (i ≡ 2 * (i / 2) + 1)
half i = elim (cases_lt (2 * (i / 2)) i) [
  | inl less ↦ inr (omega arith)
  | inr more ↦ inl (omega arith)
]

-- of a tree of n leaves
module _ (n : ℕ) (f : ℕ → Option Due)
    (settled : (i : ℕ) → 1 ≤ i → i < n → f i ≡ sooner (f (2 * i)) (f (2 * i + 1))) where
  from_two : (j : ℕ) → 1 ≤ j → j < n → (x : Due) → NotBefore x (sooner (f (2 * j)) (f (2 * j + 1))) → NotBefore x (f j)
  from_two j ge lt x h = subst (NotBefore x) (sym (settled j ge lt)) h

  from_below : (j i : ℕ) → 1 ≤ j → j < n → (i ≡ 2 * j) ⊎ (i ≡ 2 * j + 1) → (x : Due) → NotBefore x (f i)
      → NotBefore x (f j)
  from_below j i ge lt (inl e) x h =
      let left = subst (λ k. NotBefore x (f k)) e h in
      from_two j ge lt x (not_before_left (f (2 * j)) (f (2 * j + 1)) x left)
  from_below j i ge lt (inr e) x h =
      let right = subst (λ k. NotBefore x (f k)) e h in
      from_two j ge lt x (not_before_right (f (2 * j)) (f (2 * j + 1)) x right)

  -- what does not come before a node does not come before the root
  from_root : (k i : ℕ) → i ≤ k → 1 ≤ i → i < 2 * n → (x : Due) → NotBefore x (f i) → NotBefore x (f 1)
  from_root zero i le ge lt x h = absurd (omega arith)
  from_root (suc k) i le ge lt x h = elim (cases_lt i 2) [
    | inl less ↦ let e : i ≡ 1 = omega arith in subst (λ k. NotBefore x (f k)) e h
    | inr more ↦
        let j = i / 2 in let above = from_below j i (omega arith) (omega arith) (half i) x h in
        from_root k j (omega arith) (omega arith) (omega arith) x above
  ]

  -- what stands at a node stands at a leaf
  at_leaf : (k i : ℕ) → 2 * n ≤ i + k → 1 ≤ i → (x : Due) → f i ≡ Some x → (p : ℕ) × (f (n + p) ≡ Some x)
  at_leaf zero i le ge x h = let e : n + (i - n) ≡ i = omega arith in (i - n, ap f e ∙ h)
  at_leaf (suc k) i le ge x h = elim (cases_lt i n) [
    | inl less ↦ elim (sooner_one (f (2 * i)) (f (2 * i + 1)) x (sym (settled i ge less) ∙ h)) [
      | inl left ↦ at_leaf k (2 * i) (omega arith) (omega arith) x left
      | inr right ↦ at_leaf k (2 * i + 1) (omega arith) (omega arith) x right
    ]
    | inr more ↦ let e : n + (i - n) ≡ i = omega arith in (i - n, ap f e ∙ h)
  ]

module _ (held : Held) (firsts : List (Option Due)) where
  one_of : ℕ → Bool → Option Due
  one_of i is_inner = cond is_inner (inner_node firsts i) (leaf held (i - length held))

  pub inner : (i : ℕ) → i < length held → node held firsts i ≡ inner_node firsts i
  unfolding one_of
  inner i less = ap (one_of i) (lt-ltb i (length held) less)

  pub outer : (i : ℕ) → length held ≤ i → node held firsts i ≡ leaf held (i - length held)
  unfolding one_of
  outer i more = ap (one_of i) (le-ltb i (length held) more)

  at_place : (p : ℕ) → node held firsts (length held + p) ≡ leaf held p
  at_place p =
      let e : length held + p - length held ≡ p = omega arith in
      outer (length held + p) (omega arith) ∙ ap (leaf held) e

  module _ (settled : IsSettled held firsts) where
    rule : (i : ℕ) → 1 ≤ i → i < length held → node held firsts i ≡ below held firsts i
    rule i ge lt = inner i lt ∙ settled i ge lt (λ e. omega arith)

    within : (x : Due) → Holds held x → x.2 < length held
    within x h = elim (cases_lt x.2 (length held)) [
      | inl less ↦ less
      | inr more ↦
          let past : held_at held x.2 ≡ None = get_or-eq_default held None more in
          absurd (none_some (x.0, x.1) (sym past ∙ h))
    ]

    held_later : (x : Due) → Holds held x → NotBefore x (node held firsts 1)
    held_later x h =
        let n = length held in let less = within x h in
        let here : node held firsts (n + x.2) ≡ Some x = at_place x.2 ∙ ap (λ o. placed o x.2) h in
        let itself = subst (NotBefore x) (sym here) (not_before_self x) in
        from_root n (node held firsts) rule (n + x.2) (n + x.2) (omega arith) (omega arith) (omega arith) x itself

    held_here : (o : Option (ℕ × ℕ)) (p : ℕ) (x : Due) → held_at held p ≡ o → placed o p ≡ Some x → Holds held x
    held_here None p x e h = absurd (none_some x h)
    held_here (Some y) p x e h = let k : (y.0, y.1, p) ≡ x = cc in subst (Holds held) k e

    root_held : (x : Due) → node held firsts 1 ≡ Some x → Holds held x
    root_held x h =
        let n = length held in
        let found = at_leaf n (node held firsts) rule (2 * n) 1 (omega arith) (omega arith) x h in
        held_here (held_at held found.0) found.0 x refl (sym (at_place found.0) ∙ found.1)

    none_held : node held firsts 1 ≡ None → (p : ℕ) (o : Option (ℕ × ℕ)) → held_at held p ≡ o → held_at held p ≡ None
    none_held root p None e = e
    none_held root p (Some y) e = absurd (subst (NotBefore (y.0, y.1, p)) root (held_later (y.0, y.1, p) e))

    -- what stands at the root is due first
    pub root_least : (o : Option Due) → o ≡ node held firsts 1 → IsLeast held o
    root_least None e = λ p. none_held (sym e) p (held_at held p) refl
    root_least (Some x) e = (root_held x (sym e), λ y h. subst (NotBefore y) (sym e) (held_later y h))
