-- A pass of all shards is split shard by shard.
use Rattle.std.proofs.Common.{◌≡◌, ◌≢◌, ℕ, zero, suc, ◌+◌, ◌<◌, ◌≤◌, List, [], ◌∷◌, ◌++◌, length, length-append, length-set, set, slice_get, get_or, Some, None, refl, sym, ap, ◌∙◌, subst, ⊎_elim, arith}
use Rattle.std.proofs.lemmas.Option.{slice_get_within, slice_get-get_or}
use Rattle.turn_lock.specs.Lock.{IsPassOf, marks_of, own_of, opened_with, seen_of}
use Rattle.turn_lock.specs.History.{Legal}
use Rattle.turn_lock.specs.Marks.{selected}
use Rattle.hall_core.specs.Step.{may, allows, after}
use Rattle.hall_core.specs.Kept.{given_in, spent_in}
use Rattle.hall_core.specs.Shared.{IsOpen, call_of, reply_of}
use Rattle.hall.specs.Passes.{Lock, Seat, SharedHall, HallPass, IsPassOfHall, locks_of, passes_of, shards_of}
use Rattle.hall.specs.Parts.{AtEach, HoldsAll, IsSplit}
use Rattle.hall.proofs.Places.{at_last, at_set, at_snoc, one_item, set_other}

module _ {P : Type 0} (h : SharedHall P) where
  -- the passes of the first n shards were split
  pub record Halved (n : ℕ) (whole left right : List (Seat P)) : Type 0 where
    pub same_length : length left ≡ length whole
    pub count : length right ≡ n
    pub done : (s : ℕ) (l : Lock P) (a b c : Seat P) → slice_get (locks_of h) s ≡ Some l → slice_get whole s ≡ Some a → slice_get left s ≡ Some b → slice_get right s ≡ Some c
        → IsPassOf l b × IsPassOf l c × IsSplit l a b c
    pub rest : (s : ℕ) → n ≤ s → slice_get left s ≡ slice_get whole s

  pub halved_none : (whole : List (Seat P)) → Halved 0 whole whole []
  halved_none whole = record { same_length = refl; count = refl; done = λ s l a b c at la lb lc. absurd (let k : None ≡ Some c = lc in cc); rest = λ s le. refl }

  pub halved_more : (n : ℕ) (whole left left' right right' : List (Seat P)) (l : Lock P) (old b c : Seat P) → Halved n whole left right → slice_get (locks_of h) n ≡ Some l → slice_get left n ≡ Some old
      → left' ≡ set left n b → right' ≡ right ++ c ∷ [] → IsPassOf l b → IsPassOf l c → IsSplit l old b c → Halved (n + 1) whole left' right'
  halved_more n whole left left' right right' l old b c r at has is is' pb pc split = record {
    same_length = ap length is ∙ (length-set left n b ∙ r.same_length);
    count = ap length is' ∙ (length-append right (c ∷ []) ∙ ap (λ (k : ℕ). k + 1) r.count);
    done = λ s m a x y at' la lx ly. ⊎_elim
        (λ e. subst (λ (z : Seat P). IsPassOf m z × IsPassOf m y × IsSplit m a z y) e.1
        (subst (λ (z : Seat P). IsPassOf m b × IsPassOf m z × IsSplit m a b z) (new_is s y (subst (λ (list : List (Seat P)). slice_get list s ≡ Some y) is' ly) e.0)
        (subst (λ (z : Seat P). IsPassOf m b × IsPassOf m c × IsSplit m z b c) (one_item whole n old a (sym (r.rest n (omega arith)) ∙ has) (subst (λ (k : ℕ). slice_get whole k ≡ Some a) e.0 la))
        (subst (λ (z : Lock P). IsPassOf z b × IsPassOf z c × IsSplit z old b c) (one_item (locks_of h) n l m at (subst (λ (k : ℕ). slice_get (locks_of h) k ≡ Some m) e.0 at')) (pb, pc, split)))))
        (λ e. r.done s m a x y at' la e.1 (old_is s y (subst (λ (list : List (Seat P)). slice_get list s ≡ Some y) is' ly) e.0))
        (at_set left n s b x (subst (λ (list : List (Seat P)). slice_get list s ≡ Some x) is lx));
    rest = λ s le. ap (λ (list : List (Seat P)). slice_get list s) is ∙ (set_other left n s b (λ e. omega arith) ∙ r.rest s (omega arith));
  }
    where
      new_is : (s : ℕ) (y : Seat P) → slice_get (right ++ c ∷ []) s ≡ Some y → s ≡ n → c ≡ y
      new_is s y ly e = one_item (right ++ c ∷ []) (length right) c y (at_last right c) (subst (λ (k : ℕ). slice_get (right ++ c ∷ []) k ≡ Some y) (e ∙ sym r.count) ly)

      old_is : (s : ℕ) (y : Seat P) → slice_get (right ++ c ∷ []) s ≡ Some y → s ≢ n → slice_get right s ≡ Some y
      old_is s y ly ne = ⊎_elim (λ e. e) (λ e. absurd (ne (e.0 ∙ r.count))) (at_snoc right c y s ly)

  own_same : (l : Lock P) (a b c : Seat P) → IsSplit l a b c → own_of b ≡ own_of a
  own_same l a b c x = ap (λ m. selected m (seen_of b)) x.marks ∙ ap (λ seen. selected (marks_of a) seen) x.seen

  module _ (p q r : HallPass P) (is : IsPassOfHall h p) (d : Halved (shards_of h) (passes_of p) (passes_of q) (passes_of r)) where
    pub left_is : IsPassOfHall h q
    left_is = record {
      count = d.same_length ∙ is.count;
      each = λ s l b at has. (
          let inside = slice_get_within (passes_of q) s b has in let same = d.same_length in let one = is.count in let two = d.count in
          let a : Seat P = get_or (passes_of p) s b in let c : Seat P = get_or (passes_of r) s b in
          let la = slice_get-get_or (passes_of p) s b (omega arith) in let lc = slice_get-get_or (passes_of r) s b (omega arith) in
          let x = d.done s l a b c at la has lc in let was = is.each s l a at la in
          record {
            pass = x.0;
            opened = was.opened;
            legal = subst (λ seen. Legal may allows after (opened_with l) seen) (sym x.2.seen) was.legal;
            spent = λ n. subst (λ own. spent_in call_of n own ≤ given_in reply_of n own) (sym (own_same l a b c x.2)) (was.spent n);
          });
    }

    pub right_is : IsPassOfHall h r
    right_is = record {
      count = d.count;
      each = λ s l c at has. (
          let inside = slice_get_within (passes_of r) s c has in let same = d.same_length in let one = is.count in let two = d.count in
          let a : Seat P = get_or (passes_of p) s c in let b : Seat P = get_or (passes_of q) s c in
          let la = slice_get-get_or (passes_of p) s c (omega arith) in let lb = slice_get-get_or (passes_of q) s c (omega arith) in
          let x = d.done s l a b c at la lb has in let was = is.each s l a at la in
          record {
            pass = x.1;
            opened = was.opened;
            legal = subst (λ seen. Legal may allows after (opened_with l) seen) (sym x.2.new_seen) was.legal;
            spent = λ n. subst (λ m. spent_in call_of n (selected m (seen_of c)) ≤ given_in reply_of n (selected m (seen_of c))) (sym x.2.new_marks) (omega arith);
          });
    }

    pub each_split : AtEach IsSplit h p q r
    each_split s l a b c at la lb lc = (d.done s l a b c at la lb lc).2

    pub holds_all : HoldsAll p q
    holds_all t holds = record {
      shard = subst (λ n. t.shard < n) (sym d.same_length) holds.shard;
      is_open = λ b has. (
          let inside = slice_get_within (passes_of q) t.shard b has in let same = d.same_length in let one = is.count in let two = d.count in
          let a : Seat P = get_or (passes_of p) t.shard b in let c : Seat P = get_or (passes_of r) t.shard b in
          let l = lock_at t.shard (omega arith) in
          let la = slice_get-get_or (passes_of p) t.shard b (omega arith) in let lc = slice_get-get_or (passes_of r) t.shard b (omega arith) in
          let x = d.done t.shard l.0 a b c l.1 la has lc in
          subst (λ own. IsOpen t.number own) (sym (own_same l.0 a b c x.2)) (holds.is_open a la));
    }
      where
        lock_in : (locks : List (Lock P)) (s : ℕ) → s < length locks → (l : Lock P) × (slice_get locks s ≡ Some l)
        lock_in [] s lt = absurd (omega arith)
        lock_in (l ∷ ls) zero lt = (l, refl)
        lock_in (l ∷ ls) (suc s) lt = lock_in ls s (omega arith)

        lock_at : (s : ℕ) → s < shards_of h → (l : Lock P) × (slice_get (locks_of h) s ≡ Some l)
        lock_at s lt = lock_in (locks_of h) s lt
