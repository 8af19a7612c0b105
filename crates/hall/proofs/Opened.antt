-- A table is opened shard by shard.
use Rattle.std.proofs.Common.{◌≡◌, ℕ, ◌+◌, ◌≤◌, List, [], ◌∷◌, ◌++◌, length, length-append, slice_get, Some, None, sym, ap, ◌∙◌, subst, ⊎_elim, arith}
use Rattle.std.proofs.lemmas.Option.{slice_get_within}
use Rattle.turn_lock.specs.Lock.{IsPassOf, marks_of, opened_with, seen_of, share_of}
use Rattle.turn_lock.specs.History.{Legal}
use Rattle.turn_lock.specs.Marks.{selected}
use Rattle.turn_lock.specs.View.{all_shares}
use Rattle.hall_core.specs.Step.{IsNew, may, allows, after}
use Rattle.hall_core.specs.Kept.{given_in, spent_in}
use Rattle.hall_core.specs.Shared.{call_of, reply_of}
use Rattle.hall.specs.Passes.{Lock, Seat, SharedHall, HallPass, IsFirst, IsPassOfHall, locks_of, passes_of}
use Rattle.hall.specs.Parts.{MaySplit}
use Rattle.hall.proofs.Places.{at_last, at_snoc, item_at, one_item}

module _ {P : Type 0} where
  -- the lock of a shard and its first pass
  pub record IsOpened (capacity shard : ℕ) (l : Lock P) (q : Seat P) : Type 0 where
    pub pass : IsPassOf l q
    pub opened : IsNew shard capacity (opened_with l)
    pub seen : seen_of q ≡ []
    pub marks : marks_of q ≡ []
    pub share : share_of q ≡ all_shares

  -- the first n shards are open
  pub record Opened (capacity n : ℕ) (locks : List (Lock P)) (seats : List (Seat P)) : Type 0 where
    pub locks_count : length locks ≡ n
    pub seats_count : length seats ≡ n
    pub each : (s : ℕ) (l : Lock P) (q : Seat P) → slice_get locks s ≡ Some l → slice_get seats s ≡ Some q → IsOpened capacity s l q

  pub opened_none : (capacity : ℕ) → Opened capacity 0 [] []
  opened_none capacity = record { locks_count = omega arith; seats_count = omega arith; each = λ s l q at has. absurd (let k : None ≡ Some l = at in cc) }

  pub opened_more : (capacity n : ℕ) (locks locks' : List (Lock P)) (seats seats' : List (Seat P)) (l : Lock P) (q : Seat P) → Opened capacity n locks seats → locks' ≡ locks ++ l ∷ [] → seats' ≡ seats ++ q ∷ []
      → IsOpened capacity n l q → Opened capacity (n + 1) locks' seats'
  opened_more capacity n locks locks' seats seats' l q r is is' new = record {
    locks_count = ap length is ∙ (length-append locks (l ∷ []) ∙ ap (λ (k : ℕ). k + 1) r.locks_count);
    seats_count = ap length is' ∙ (length-append seats (q ∷ []) ∙ ap (λ (k : ℕ). k + 1) r.seats_count);
    each = λ s m x at has. ⊎_elim
        (λ a. ⊎_elim (λ b. r.each s m x a b) (λ b. absurd (past s m (b.0 ∙ r.seats_count) a)) (at_snoc seats q x s (subst (λ list. slice_get list s ≡ Some x) is' has)))
        (λ a. subst (λ z. IsOpened capacity s z x) a.1 (subst (λ z. IsOpened capacity s l z) (last s x (a.0 ∙ r.locks_count) (subst (λ list. slice_get list s ≡ Some x) is' has))
        (subst (λ k. IsOpened capacity k l q) (sym (a.0 ∙ r.locks_count)) new)))
        (at_snoc locks l m s (subst (λ list. slice_get list s ≡ Some m) is at));
  }
    where
      last : (s : ℕ) (x : Seat P) → s ≡ n → slice_get (seats ++ q ∷ []) s ≡ Some x → q ≡ x
      last s x e has = one_item (seats ++ q ∷ []) (length seats) q x (at_last seats q) (subst (λ k. slice_get (seats ++ q ∷ []) k ≡ Some x) (e ∙ sym r.seats_count) has)

      past : (s : ℕ) (m : Lock P) → s ≡ n → slice_get locks s ≡ Some m → ⊥
      past s m e at = (let inside = slice_get_within locks s m at in let count = r.locks_count in omega arith)

  pub opened_splits : (capacity n : ℕ) (locks : List (Lock P)) (p : HallPass P) → Opened capacity n locks (passes_of p) → MaySplit p
  opened_splits capacity n locks p r s q has =
      (let inside = slice_get_within (passes_of p) s q has in let a = r.seats_count in let b = r.locks_count in
      let l = item_at locks s (omega arith) in let o = (r.each s l.0 q l.1 has).share in omega arith)

  module _ (capacity n : ℕ) (h : SharedHall P) (p : HallPass P) (r : Opened capacity n (locks_of h) (passes_of p)) where
    pub opened_is : IsPassOfHall h p
    opened_is = record {
      count = r.seats_count ∙ sym r.locks_count;
      each = λ s l q at has. (let o = r.each s l q at has in record {
        pass = o.pass;
        opened = subst (λ k. IsNew s k (opened_with l)) (sym o.opened.capacity_is) o.opened;
        legal = subst (λ seen. Legal may allows after (opened_with l) seen) (sym o.seen) tt;
        spent = λ k. subst (λ m. spent_in call_of k (selected m (seen_of q)) ≤ given_in reply_of k (selected m (seen_of q))) (sym o.marks) (omega arith);
      });
    }

    pub opened_first : IsFirst capacity h p
    opened_first s l q at has = (let o = r.each s l q at has in (o.opened.capacity_is, o.seen, o.marks, o.share))
