-- Places in the order of their keys: what halving leaves, and what putting in and taking out keeps.
use Rattle.std.proofs.Common.{◌≡◌, ◌≢◌, ℕ, zero, suc, ◌+◌, ◌<◌, ◌≤◌, ◌⊎◌, List, [], ◌∷◌, length, slice_get, insert, remove, Option, Some, None, refl, sym, ap, ◌∙◌, subst, inl, inr, ⊎_elim, arith}
use Rattle.std.specs.Cmp.{IsTotalOrder}
use Rattle.std.specs.Cmp.Lexicographic.{slice_cmp}
use Rattle.std.specs.Ordering.{is_eq, nat_cmp, ordering_reverse, ordering_then}
use Rattle.std.specs.declared.cmp.Ordering.{Ordering}
use Rattle.std.specs.declared.cmp.Ordering.TheVariants.{Less, Equal, Greater}
use Rattle.std.proofs.lemmas.Bool.{cases_lt}
use Rattle.std.proofs.lemmas.Cmp.{nat_list_cmp_total, on_total, then_total, tied_itself}
use Rattle.std.proofs.lemmas.Map.Text.{is_eq-slice_cmp}
use Rattle.std.proofs.lemmas.Option.{slice_get_within}
use Rattle.std.proofs.lemmas.Slice.Eq.{bytes_eq-Decides}
use mathlib.Core.Logic.{dite}
use native.Mathlib.Decide.{ℕ_discrete}
use Rattle.row_table.proofs.Places.{at_removed, shift, shift_apart, shift_less, shifted}
use Rattle.hall_core.specs.declared.Key.{Key}
use Rattle.hall_core.specs.Keys.{IsBefore, IsByKey, IsKeyCut, IsKeyFree, key_cmp}

-- the order of keys
key_total : IsTotalOrder key_cmp
key_total = then_total (on_total (λ k. k.app) nat_list_cmp_total) (on_total (λ k. k.id) nat_list_cmp_total)

not_before_itself : (a : Key) → IsBefore a a → ⊥
not_before_itself a h = let k : Less ≡ Equal = sym h ∙ tied_itself key_total a in cc

after_is_before : (a b : Key) → key_cmp a b ≡ Greater → IsBefore b a
after_is_before a b h = key_total.antisymm b a ∙ ap ordering_reverse h

not_both : (a b : Key) → IsBefore a b → IsBefore b a → ⊥
not_both a b h k = not_before_itself a (key_total.trans a b a h k)

same_bytes : (xs ys : List ℕ) → slice_cmp nat_cmp xs ys ≡ Equal → xs ≡ ys
same_bytes xs ys h = (bytes_eq-Decides xs ys).0 (sym (is_eq-slice_cmp xs ys) ∙ ap is_eq h)

both_equal : (a b : Ordering) → ordering_then a b ≡ Equal → (a ≡ Equal) × (b ≡ Equal)
both_equal Less b h = absurd (let k : Less ≡ Equal = h in cc)
both_equal Equal b h = (refl, h)
both_equal Greater b h = absurd (let k : Greater ≡ Equal = h in cc)

pub equal_is_same : (a b : Key) → key_cmp a b ≡ Equal → a ≡ b
equal_is_same a b h =
    let both = both_equal (slice_cmp nat_cmp a.app b.app) (slice_cmp nat_cmp a.id b.id) h in
    let app = same_bytes a.app b.app both.0 in let id = same_bytes a.id b.id both.1 in
    (λ i. record { app = app i; id = id i })

one_key : (a b : Key) → Some a ≡ Some b → a ≡ b
one_key a b e = cc

-- with one put in at i, what stood at k stands at j
IsPast : ℕ → ℕ → ℕ → Type 0
IsPast i k j = ((k < i) × (j ≡ k)) ⊎ ((i ≤ k) × (j ≡ k + 1))

past_on : (i k j : ℕ) → IsPast i k j → IsPast (suc i) (suc k) (suc j)
unfolding IsPast
past_on i k j h = ⊎_elim (λ l. let x = l.0 in let y = l.1 in inl (omega arith, omega arith)) (λ r. let x = r.0 in let y = r.1 in inr (omega arith, omega arith)) h

past_before : (i k j : ℕ) → IsPast i k j → j < i → k < i
unfolding IsPast
past_before i k j h lt = ⊎_elim (λ l. l.0) (λ r. absurd (let x = r.0 in let y = r.1 in omega arith)) h

past_after : (i k j : ℕ) → IsPast i k j → i < j → i ≤ k
unfolding IsPast
past_after i k j h lt = ⊎_elim (λ l. absurd (let x = l.0 in let y = l.1 in omega arith)) (λ r. r.0) h

past_order : (i k l j m : ℕ) → IsPast i k j → IsPast i l m → j < m → k < l
unfolding IsPast
past_order i k l j m h h' lt = ⊎_elim
    (λ a. let x = a.0 in let y = a.1 in ⊎_elim (λ b. let z = b.0 in let w = b.1 in omega arith) (λ b. let z = b.0 in let w = b.1 in omega arith) h')
    (λ a. let x = a.0 in let y = a.1 in ⊎_elim (λ b. absurd (let z = b.0 in let w = b.1 in omega arith)) (λ b. let z = b.0 in let w = b.1 in omega arith) h')
    h

module _ {A : Type 0} where
  put_here : (xs : List A) (i : ℕ) (a : A) → i ≤ length xs → slice_get (insert xs i a) i ≡ Some a
  put_here xs zero a le = refl
  put_here [] (suc i) a le = absurd (omega arith)
  put_here (x ∷ xs) (suc i) a le = put_here xs i a (omega arith)

  put_else : (xs : List A) (i k : ℕ) (a x : A) → slice_get xs k ≡ Some x → (j : ℕ) × (slice_get (insert xs i a) j ≡ Some x)
  put_else xs zero k a x e = (suc k, e)
  put_else [] (suc i) k a x e = absurd (let n : None ≡ Some x = e in cc)
  put_else (y ∷ xs) (suc i) zero a x e = (zero, e)
  put_else (y ∷ xs) (suc i) (suc k) a x e = let r = put_else xs i k a x e in (suc r.0, r.1)

  -- what stands there was put there, or stood in the list before
  put_is : (xs : List A) (i j : ℕ) (a x : A) → i ≤ length xs → slice_get (insert xs i a) j ≡ Some x → ((j ≡ i) × (a ≡ x)) ⊎ ((k : ℕ) × IsPast i k j × (slice_get xs k ≡ Some x))
  unfolding IsPast
  put_is xs zero zero a x le e = inl (refl, (let k : Some a ≡ Some x = e in cc))
  put_is xs zero (suc j) a x le e = inr (j, inr (omega arith, omega arith), e)
  put_is [] (suc i) j a x le e = absurd (omega arith)
  put_is (y ∷ xs) (suc i) zero a x le e = inr (zero, inl (omega arith, refl), e)
  put_is (y ∷ xs) (suc i) (suc j) a x le e = ⊎_elim (λ h. inl (ap suc h.0, h.1)) (λ h. inr (suc h.0, past_on i h.0 j h.1, h.2)) (put_is xs i j a x (omega arith) e)

module _ (f : ℕ → Option Key) (places : List ℕ) where
  pub key_cut_all : (key : Key) (n : ℕ) → n ≡ length places → IsKeyCut f places key 0 n
  key_cut_all key n e = record {
    within = omega arith;
    below = λ i p k at h lt. absurd (omega arith);
    above = λ i p k at h le. absurd (let w = slice_get_within places i p at in omega arith);
  }

  pub key_cut_low : (key a : Key) (low high middle p : ℕ) → IsByKey f places → IsKeyCut f places key low high → slice_get places middle ≡ Some p → f p ≡ Some a → IsBefore a key → IsKeyCut f places key (middle + 1) high
  key_cut_low key a low high middle p by cut at is less = record {
    within = cut.within;
    below = λ i q k e h lt. elim (cases_lt i middle) [
      | inl before ↦ key_total.trans k a key (by.rising i middle q p k a e at h is before) less
      | inr ge ↦ (let same : i ≡ middle = omega arith in
          let place : Some q ≡ Some p = sym e ∙ (ap (slice_get places) same ∙ at) in let one : q ≡ p = cc in
          subst (λ z. IsBefore z key) (one_key a k (sym is ∙ (ap f (sym one) ∙ h))) less)
    ];
    above = cut.above;
  }

  pub key_cut_high : (key a : Key) (low high middle p : ℕ) → IsByKey f places → IsKeyCut f places key low high → middle < high → slice_get places middle ≡ Some p → f p ≡ Some a → key_cmp a key ≡ Greater → IsKeyCut f places key low middle
  key_cut_high key a low high middle p by cut lt at is more = record {
    within = (let w = cut.within in omega arith);
    below = cut.below;
    above = λ i q k e h le. elim (cases_lt middle i) [
      | inl before ↦ key_total.trans key a k (after_is_before a key more) (by.rising middle i p q a k at e is h before)
      | inr ge ↦ (let same : i ≡ middle = omega arith in
          let place : Some q ≡ Some p = sym e ∙ (ap (slice_get places) same ∙ at) in let one : q ≡ p = cc in
          subst (λ z. IsBefore key z) (one_key a k (sym is ∙ (ap f (sym one) ∙ h))) (after_is_before a key more))
    ];
  }

  -- where all others stand before or after it, no place has the key
  pub cut_is_free : (key : Key) (i : ℕ) → IsByKey f places → IsKeyCut f places key i i → IsKeyFree f key
  cut_is_free key i by cut p h =
      let at = by.found p key h in elim (cases_lt at.0 i) [
        | inl lt ↦ not_before_itself key (cut.below at.0 p key at.1 h lt)
        | inr ge ↦ not_before_itself key (cut.above at.0 p key at.1 h ge)
      ]

  -- no two stand for places of one key
  pub one_stand : (i j p q : ℕ) (a : Key) → IsByKey f places → slice_get places i ≡ Some p → slice_get places j ≡ Some q → f p ≡ Some a → f q ≡ Some a → i ≡ j
  one_stand i j p q a by at at' h h' = elim (cases_lt i j) [
    | inl lt ↦ absurd (not_before_itself a (by.rising i j p q a a at at' h h' lt))
    | inr ge ↦ elim (cases_lt j i) [
      | inl lt ↦ absurd (not_before_itself a (by.rising j i q p a a at' at h' h lt))
      | inr le ↦ omega arith
    ]
  ]

  -- so what stands where a place's key was found is the place
  pub stands_there : (i p q : ℕ) (a : Key) → IsByKey f places → slice_get places i ≡ Some q → f q ≡ Some a → f p ≡ Some a → slice_get places i ≡ Some p
  stands_there i p q a by at h h' =
      let there = by.found p a h' in
      ap (slice_get places) (one_stand i there.0 q p a by at there.1 h h') ∙ there.1

  pub by_key_same : (g : ℕ → Option Key) → ((p : ℕ) → g p ≡ f p) → IsByKey f places → IsByKey g places
  by_key_same g same by = record {
    held = λ i p at. let h = by.held i p at in (h.0, same p ∙ h.1);
    found = λ p key h. by.found p key (sym (same p) ∙ h);
    rising = λ i j p q a b at at' h h' lt. by.rising i j p q a b at at' (sym (same p) ∙ h) (sym (same q) ∙ h') lt;
  }

  -- a place that had no key gets one
  module _ (g : ℕ → Option Key) (p : ℕ) (key : Key) (i : ℕ) (none : f p ≡ None) (here : g p ≡ Some key) (else : (q : ℕ) → q ≢ p → g q ≡ f q) (by : IsByKey f places) (cut : IsKeyCut f places key i i) where
    is_other : (q : ℕ) (k : Key) → f q ≡ Some k → q ≢ p
    is_other q k h e = let n : None ≡ Some k = sym none ∙ (ap f (sym e) ∙ h) in cc

    was_other : (k q : ℕ) → slice_get places k ≡ Some q → q ≢ p
    was_other k q at = let h = by.held k q at in is_other q h.0 h.1

    was_key : (k q : ℕ) (a : Key) → slice_get places k ≡ Some q → g q ≡ Some a → f q ≡ Some a
    was_key k q a at h = sym (else q (was_other k q at)) ∙ h

    new_key : (q : ℕ) (a : Key) → p ≡ q → g q ≡ Some a → a ≡ key
    new_key q a e h = one_key a key (sym h ∙ (ap g (sym e) ∙ here))

    pub by_key_more : IsByKey g (insert places i p)
    by_key_more = record {
      held = λ j q at. ⊎_elim
          (λ new. (key, ap g (sym new.1) ∙ here))
          (λ old. let h = by.held old.0 q old.2 in (h.0, else q (was_other old.0 q old.2) ∙ h.1))
          (put_is places i j p q cut.within at);
      found = λ q k h. dite (ℕ_discrete q p)
          (λ e. (i, put_here places i p cut.within ∙ ap Some (sym e)))
          (λ n. let old = by.found q k (sym (else q n) ∙ h) in put_else places i old.0 p q old.1);
      rising = λ j k q r a b at at' h h' lt. ⊎_elim
          (λ new. ⊎_elim
          (λ new'. absurd (let x = new.0 in let y = new'.0 in omega arith))
          (λ old'. subst (λ z. IsBefore z b) (sym (new_key q a new.1 h))
          (cut.above old'.0 r b old'.2 (was_key old'.0 r b old'.2 h') (past_after i old'.0 k old'.1 (let x = new.0 in omega arith))))
          (put_is places i k p r cut.within at'))
          (λ old. ⊎_elim
          (λ new'. subst (λ z. IsBefore a z) (sym (new_key r b new'.1 h'))
          (cut.below old.0 q a old.2 (was_key old.0 q a old.2 h) (past_before i old.0 j old.1 (let x = new'.0 in omega arith))))
          (λ old'. by.rising old.0 old'.0 q r a b old.2 old'.2 (was_key old.0 q a old.2 h) (was_key old'.0 r b old'.2 h')
          (past_order i old.0 old'.0 j k old.1 old'.1 lt))
          (put_is places i k p r cut.within at'))
          (put_is places i j p q cut.within at);
    }

  -- a place has no key any more
  module _ (g : ℕ → Option Key) (p : ℕ) (i : ℕ) (at_p : slice_get places i ≡ Some p) (none : g p ≡ None) (else : (q : ℕ) → q ≢ p → g q ≡ f q) (by : IsByKey f places) where
    still : (j q : ℕ) → slice_get (remove places i) j ≡ Some q → slice_get places (shift i j) ≡ Some q
    still j q at = sym (at_removed places i j) ∙ at

    has_key_now : (q : ℕ) (a : Key) → g q ≡ Some a → q ≢ p
    has_key_now q a h e = let n : None ≡ Some a = sym none ∙ (ap g (sym e) ∙ h) in cc

    is_apart : (j q : ℕ) → slice_get (remove places i) j ≡ Some q → q ≢ p
    is_apart j q at e =
        let h = by.held i p at_p in
        shift_apart i j (one_stand (shift i j) i q p h.0 by (still j q at) at_p (ap f e ∙ h.1) h.1)

    pub by_key_less : IsByKey g (remove places i)
    by_key_less = record {
      held = λ j q at. let h = by.held (shift i j) q (still j q at) in (h.0, else q (is_apart j q at) ∙ h.1);
      found = λ q k h.
          (let other = has_key_now q k h in let old = by.found q k (sym (else q other) ∙ h) in
          let away : old.0 ≢ i = (λ e. other (let s : Some q ≡ Some p = sym old.1 ∙ (ap (slice_get places) e ∙ at_p) in cc)) in
          let new = shifted i old.0 away in (new.0, at_removed places i new.0 ∙ (ap (slice_get places) new.1 ∙ old.1)));
      rising = λ j k q r a b at at' h h' lt. by.rising (shift i j) (shift i k) q r a b (still j q at) (still k r at')
          (sym (else q (has_key_now q a h)) ∙ h) (sym (else r (has_key_now r b h')) ∙ h') (shift_less i j k lt);
    }
