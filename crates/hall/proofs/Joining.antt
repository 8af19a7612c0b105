-- Two passes of all shards are joined shard by shard, from the last on.
use Rattle.std.proofs.Common.{◌≡◌, ℕ, zero, suc, ◌+◌, ◌<◌, ◌≤◌, ◌⊎◌, List, [], ◌∷◌, ◌++◌, length, length-append, length-set, set, slice_get, get_or, Some, refl, sym, ap, ◌∙◌, subst, inl, inr, ⊎_elim, arith}
use Rattle.std.proofs.lemmas.Option.{slice_get_within, slice_get-get_or}
use Rattle.turn_lock.specs.Lock.{IsPassOf, marks_of, own_of, opened_with, seen_of}
use Rattle.hall_core.specs.Kept.{gives, spends}
use Rattle.hall_core.specs.Keeping as keeping
use Rattle.hall_core.specs.Shared.{IsOpen, call_of, reply_of, total_interleaves}
use Rattle.hall.specs.Passes.{Lock, Seat, SharedHall, HallPass, IsPassOfHall, locks_of, passes_of}
use Rattle.hall.specs.Parts.{AtEach, HoldsOf, IsJoined}
use Rattle.hall.proofs.Places.{at_front, at_last, at_set, one_item, set_other}
use Rattle.hall.proofs.Histories.{Made, legal_as, starting, total_selected}

pub no_passes : {A : Type 0} (xs : List A) → length xs ≡ 0 → xs ≡ []
no_passes [] e = refl
no_passes (x ∷ xs) e = absurd (omega arith)

module _ {P : Type 0} (h : SharedHall P) where
  -- but for the other passes that are left, each was joined
  pub record Woven (first other left now : List (Seat P)) : Type 0 where
    pub same_length : length now ≡ length first
    pub within : length left ≤ length other
    pub front : (s : ℕ) (o : Seat P) → slice_get left s ≡ Some o → slice_get other s ≡ Some o
    pub done : (s : ℕ) (l : Lock P) (a o b : Seat P) → length left ≤ s → slice_get (locks_of h) s ≡ Some l → slice_get first s ≡ Some a → slice_get other s ≡ Some o → slice_get now s ≡ Some b
        → IsPassOf l b × IsJoined l a o b
    pub rest : (s : ℕ) → s < length left → slice_get now s ≡ slice_get first s

  pub woven_none : (first other : List (Seat P)) → Woven first other other first
  woven_none first other = record {
    same_length = refl;
    within = omega arith;
    front = λ s o e. e;
    done = λ s l a o b le at la lo lb. absurd (let lt = slice_get_within other s o lo in omega arith);
    rest = λ s lt. refl;
  }

  pub woven_more : (first other left left' now now' : List (Seat P)) (l : Lock P) (old x b : Seat P) → Woven first other left now → left ≡ left' ++ x ∷ [] → slice_get (locks_of h) (length left') ≡ Some l
      → slice_get now (length left') ≡ Some old → now' ≡ set now (length left') b → IsPassOf l b → IsJoined l old x b → Woven first other left' now'
  woven_more first other left left' now now' l old x b r cut at has is pb joins =
      let n : ℕ = length left' in let more : length left ≡ length left' + 1 = ap length cut ∙ length-append left' (x ∷ []) in let within = r.within in record {
        same_length = ap length is ∙ (length-set now (length left') b ∙ r.same_length);
        within = omega arith;
        front = λ s o e. r.front s o (subst (λ (list : List (Seat P)). slice_get list s ≡ Some o) (sym cut) (at_front left' (x ∷ []) s o e));
        done = λ s m a o y le at' la lo ly. ⊎_elim
            (λ e. subst (λ (z : Seat P). IsPassOf m z × IsJoined m a o z) e.1
            (subst (λ (z : Seat P). IsPassOf m b × IsJoined m a z b) (one_item other (length left') x o (r.front (length left') x (subst (λ (list : List (Seat P)). slice_get list (length left') ≡ Some x) (sym cut) (at_last left' x))) (subst (λ (k : ℕ). slice_get other k ≡ Some o) e.0 lo))
            (subst (λ (z : Seat P). IsPassOf m b × IsJoined m z x b) (one_item first (length left') old a (sym (r.rest (length left') (omega arith)) ∙ has) (subst (λ (k : ℕ). slice_get first k ≡ Some a) e.0 la))
            (subst (λ (z : Lock P). IsPassOf z b × IsJoined z old x b) (one_item (locks_of h) (length left') l m at (subst (λ (k : ℕ). slice_get (locks_of h) k ≡ Some m) e.0 at')) (pb, joins)))))
            (λ e. r.done s m a o y (let ne = e.0 in omega arith) at' la lo e.1)
            (at_set now (length left') s b y (subst (λ (list : List (Seat P)). slice_get list s ≡ Some y) is ly));
        rest = λ s lt. ap (λ (list : List (Seat P)). slice_get list s) is ∙ (set_other now (length left') s b (λ e. omega arith) ∙ r.rest s (omega arith));
      }

  module _ (p o q : HallPass P) (is : IsPassOfHall h p) (too : IsPassOfHall h o) (d : Woven (passes_of p) (passes_of o) [] (passes_of q)) where
    -- what stands at a shard
    pub record Here (s : ℕ) (l : Lock P) (b : Seat P) : Type 0 where
      pub first : Seat P
      pub other : Seat P
      pub first_at : slice_get (passes_of p) s ≡ Some first
      pub other_at : slice_get (passes_of o) s ≡ Some other
      pub pass : IsPassOf l b
      pub joined : IsJoined l first other b

    here : (s : ℕ) (l : Lock P) (b : Seat P) → slice_get (locks_of h) s ≡ Some l → slice_get (passes_of q) s ≡ Some b → Here s l b
    here s l b at has =
        let inside = slice_get_within (passes_of q) s b has in let same = d.same_length in let one = is.count in let two = too.count in
        let la = slice_get-get_or (passes_of p) s b (omega arith) in let lo = slice_get-get_or (passes_of o) s b (omega arith) in
        let x = d.done s l (get_or (passes_of p) s b) (get_or (passes_of o) s b) b (omega arith) at la lo has in
        record { first = get_or (passes_of p) s b; other = get_or (passes_of o) s b; first_at = la; other_at = lo; pass = x.0; joined = x.1 }

    pub hall_joined : IsPassOfHall h q
    hall_joined = record {
      count = d.same_length ∙ is.count;
      each = λ s l b at has. (
          let x = here s l b at has in let a = is.each s l x.first at x.first_at in let c = too.each s l x.other at x.other_at in
          record {
            pass = x.pass;
            opened = a.opened;
            legal = x.joined.legal;
            spent = λ n. (
                let given = total_interleaves (λ (e : Made P). gives n (reply_of e)) (own_of x.first) (own_of x.other) (own_of b) x.joined.listed in
                let gone = total_interleaves (λ (e : Made P). spends n (call_of e)) (own_of x.first) (own_of x.other) (own_of b) x.joined.listed in
                let left = a.spent n in let right = c.spent n in omega arith);
          });
    }

    pub each_joined : AtEach IsJoined h p o q
    each_joined s l a x b at la lx lb = (d.done s l a x b (omega arith) at la lx lb).1

    -- an open ticket of either is open
    stays : (n s : ℕ) (l : Lock P) (b : Seat P) (at : slice_get (locks_of h) s ≡ Some l) (has : slice_get (passes_of q) s ≡ Some b)
        → IsOpen n (own_of (here s l b at has).first) ⊎ IsOpen n (own_of (here s l b at has).other) → IsOpen n (own_of b)
    stays n s l b at has which =
        let x = here s l b at has in let a = is.each s l x.first at x.first_at in let c = too.each s l x.other at x.other_at in
        let given = total_interleaves (λ (e : Made P). gives n (reply_of e)) (own_of x.first) (own_of x.other) (own_of b) x.joined.listed in
        let gone = total_interleaves (λ (e : Made P). spends n (call_of e)) (own_of x.first) (own_of x.other) (own_of b) x.joined.listed in
        let once = keeping.given_once call_of reply_of (opened_with l) (seen_of b) n (starting s (opened_with l).capacity (opened_with l) a.opened) (legal_as (opened_with l) (seen_of b) x.joined.legal) in
        let part = total_selected (λ (e : Made P). gives n (reply_of e)) (marks_of b) (seen_of b) in let left = a.spent n in let right = c.spent n in
        ⊎_elim (λ w. (let w0 = w.0 in let w1 = w.1 in (omega arith, omega arith))) (λ w. (let w0 = w.0 in let w1 = w.1 in (omega arith, omega arith))) which

    pub holds_of : HoldsOf p o q
    holds_of t which = record {
      shard = ⊎_elim (λ w. subst (λ n. t.shard < n) (sym d.same_length) w.shard) (λ w. subst (λ n. t.shard < n) (too.count ∙ (sym is.count ∙ sym d.same_length)) w.shard) which;
      is_open = λ b has. (
          let inside = slice_get_within (passes_of q) t.shard b has in let same = d.same_length in let one = is.count in
          let l = lock_in (locks_of h) t.shard (omega arith) in let x = here t.shard l.0 b l.1 has in
          stays t.number t.shard l.0 b l.1 has (⊎_elim (λ w. inl (w.is_open x.first x.first_at)) (λ w. inr (w.is_open x.other x.other_at)) which));
    }
      where
        lock_in : (locks : List (Lock P)) (s : ℕ) → s < length locks → (l : Lock P) × (slice_get locks s ≡ Some l)
        lock_in [] s lt = absurd (omega arith)
        lock_in (l ∷ ls) zero lt = (l, refl)
        lock_in (l ∷ ls) (suc s) lt = lock_in ls s (omega arith)
