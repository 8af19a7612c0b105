-- Beginnings of lists, and histories that grow by one entry.
use Rattle.std.proofs.Common.{◌≡◌, ℕ, ◌+◌, ◌<◌, ◌≤◌, Bool, true, false, ◌⊎◌, List, [], ◌∷◌, ◌++◌, length, refl, sym, ap, ◌∙◌, subst, subst₂, inl, inr, ⊎_elim, arith, append_assoc, append-nil, length-append, cond, tests}
use native.Mathlib.Decide.{dec_lt}
use Rattle.turn_lock.specs.declared.history.Entry.{Entry}
use Rattle.turn_lock.specs.History.{left_by, Legal, Begins, Interleaves, longer}
use Rattle.turn_lock.specs.Marks.{selected, mark_at, merged}
use Rattle.turn_lock.proofs.Marks.{interleaves, selected_front}

module _ {A : Type 0} where
  pub begins_more : (xs ys zs : List A) → Begins xs ys → Begins xs (ys ++ zs)
  begins_more xs ys zs h = (h.0 ++ zs, ap (λ (l : List A). l ++ zs) h.1 ∙ append_assoc xs h.0 zs)

  pub begins_itself : (xs : List A) → Begins xs xs
  begins_itself xs = ([], sym (append-nil xs))

  pub begins_le : (xs ys : List A) → Begins xs ys → length xs ≤ length ys
  begins_le xs ys h = omega (arith, ap length h.1, length-append xs h.0)

  abbrev front_or : A → List A → A
  front_or d [] = d
  front_or d (x ∷ xs) = x

  abbrev tail : List A → List A
  tail [] = []
  tail (x ∷ xs) = xs

  -- of two beginnings of one list one begins the other
  pub one_begins : (xs ys r s : List A) → xs ++ r ≡ ys ++ s → Begins xs ys ⊎ Begins ys xs
  one_begins [] ys r s e = inl (ys, refl)
  one_begins (x ∷ xs) [] r s e = inr (x ∷ xs, refl)
  one_begins (x ∷ xs) (y ∷ ys) r s e = let h : x ≡ y = ap (front_or x) e in ⊎_elim
      (λ b. inl (b.0, λ k. sym h k ∷ b.1 k)) (λ b. inr (b.0, λ k. h k ∷ b.1 k)) (one_begins xs ys r s (ap tail e))

  pub no_items : (xs : List A) → length xs ≡ 0 → xs ≡ []
  no_items [] e = refl
  no_items (x ∷ xs) e = absurd (omega arith)

  longer_of : (xs ys : List A) → Dec (length xs < length ys) → Begins xs ys ⊎ Begins ys xs → Begins xs (longer xs ys) × Begins ys (longer xs ys)
  longer_of xs ys (yes l) h = let e : longer xs ys ≡ ys = grind (arith, tests) in
      subst (λ (z : List A). Begins xs z × Begins ys z) (sym e) (⊎_elim (λ a. a) (λ a. absurd (let q = begins_le ys xs a in omega arith)) h, begins_itself ys)
  longer_of xs ys (no n) h = let e : longer xs ys ≡ xs = grind (arith, tests) in
      subst (λ (z : List A). Begins xs z × Begins ys z) (sym e) (
        begins_itself xs,
        ⊎_elim
            (λ a. let z : a.0 ≡ [] = no_items a.0 (let q = ap length a.1 in let w = length-append xs a.0 in omega arith) in
            ([], sym (append-nil ys ∙ (a.1 ∙ (ap (λ (l : List A). xs ++ l) z ∙ append-nil xs)))))
            (λ a. a) h,
      )

  -- of two lists of which one begins the other, both begin the longer
  pub both_begin_longer : (xs ys : List A) → Begins xs ys ⊎ Begins ys xs → Begins xs (longer xs ys) × Begins ys (longer xs ys)
  both_begin_longer xs ys h = longer_of xs ys (dec_lt (length xs) (length ys)) h

  pub longer_begins : (xs ys log : List A) → Begins xs log → Begins ys log → (b : Bool) → Begins (cond b ys xs) log
  longer_begins xs ys log h k true = k
  longer_begins xs ys log h k false = h

  pub longer_le : (xs ys : List A) → (length xs ≤ length (longer xs ys)) × (length ys ≤ length (longer xs ys))
  longer_le xs ys = grind (arith, tests)

  selected_more : (bs : List Bool) (xs ys : List A) → length bs ≤ length xs → Begins xs ys → selected bs ys ≡ selected bs xs
  selected_more bs xs ys le h = ap (selected bs) h.1 ∙ selected_front bs xs h.0 le

  pub interleaves_longer : (bs cs : List Bool) (xs ys : List A) → Begins xs ys ⊎ Begins ys xs → ((p : ℕ) → mark_at bs p + mark_at cs p ≤ 1) → length bs ≤ length xs → length cs ≤ length ys
      → Interleaves (selected bs xs) (selected cs ys) (selected (merged bs cs) (longer xs ys))
  interleaves_longer bs cs xs ys h d l m = let b = both_begin_longer xs ys h in
      subst₂ (λ (u w : List A). Interleaves u w (selected (merged bs cs) (longer xs ys))) (selected_more bs xs (longer xs ys) l b.0) (selected_more cs ys (longer xs ys) m b.1)
      (interleaves bs cs (longer xs ys) d)

module _ {O C R : Type 0} (after : O → C → R → O) where
  pub left_by_last : (s : O) (log : List (Entry C R)) (e : Entry C R) → left_by after s (log ++ e ∷ []) ≡ after (left_by after s log) e.call e.reply
  left_by_last s [] e = refl
  left_by_last s (x ∷ xs) e = left_by_last (after s x.call x.reply) xs e

module _ {O C R : Type 0} (may : O → C → Type 0) (allows : O → C → R → Type 0) (after : O → C → R → O) where
  pub legal_last : (s : O) (log : List (Entry C R)) (e : Entry C R) → Legal may allows after s log → may (left_by after s log) e.call → allows (left_by after s log) e.call e.reply
      → Legal may allows after s (log ++ e ∷ [])
  legal_last s [] e h m a = (m, a, tt)
  legal_last s (x ∷ xs) e h m a = (h.0, h.1, legal_last (after s x.call x.reply) xs e h.2 m a)

  -- a front of a legal history is legal
  pub legal_front : (s : O) (xs ys : List (Entry C R)) → Legal may allows after s (xs ++ ys) → Legal may allows after s xs
  legal_front s [] ys h = tt
  legal_front s (x ∷ xs) ys h = (h.0, h.1, legal_front (after s x.call x.reply) xs ys h.2)
