-- Views and what the rule says of them.
use Rattle.std.proofs.Common.{◌≡◌, ◌≢◌, ℕ, ◌<◌, ◌≤◌, List, Bool, length, set, slice_index, Option, Some, refl, sym, ap, ◌∙◌, subst, ⊎_elim, arith, unwrap_or}
use mathlib.Core.Option as maybe
use lib.ListN.{get_elem?}
use lib.Seq.{set-get_or}
use Rattle.atomic_table.specs.Table.{State, Me, keeps, stepped}
use Rattle.atomic_table.proofs.Lists.{at_set, set_again, set_else}
use Rattle.turn_lock.specs.declared.history.Entry.{Entry}
use Rattle.turn_lock.specs.declared.view.Stage.{Stage}
use Rattle.turn_lock.specs.declared.view.Stage.TheVariants.{Idle, Waiting, Serving}
use Rattle.turn_lock.specs.declared.view.View.{View}
use Rattle.turn_lock.specs.declared.slot.Held.{Held}
use Rattle.turn_lock.specs.History.{total}
use Rattle.turn_lock.specs.Marks.{mark_at}
use Rattle.turn_lock.specs.View.{all_shares, HasTurn, waiting, share_in, owns_at}
use Rattle.turn_lock.specs.Rule.{ViewFits, TurnsDiffer, IsOut, InTurns}
use Rattle.turn_lock.specs.Lock.{Pass}
use Rattle.turn_lock.proofs.Lists.{alone, same_place, total_le}

-- the turn of a waiting pass
turn_of : Stage → ℕ
turn_of (Waiting t) = t
turn_of Idle = 0
turn_of Serving = 0

pub one_waiting : (t u : ℕ) → Waiting t ≡ Waiting u → t ≡ u
unfolding turn_of
one_waiting t u e = ap turn_of e

pub one_some : {A : Type 0} (a b : A) → Some a ≡ Some b → a ≡ b
one_some a b e = ap (λ o. unwrap_or o a) e

pub turn_same : (a b t : ℕ) (st : Stage) → st ≢ Serving → HasTurn a st t → HasTurn b st t
turn_same a b t Idle not h = h
turn_same a b t (Waiting u) not h = h
turn_same a b t Serving not h = absurd (not refl)

pub each_set : {A : Type 0} (P : A → Type 0) (views : List A) (id : ℕ) (w : A) → P w → ((j : ℕ) (v : A) → j ≢ id → get_elem? views j ≡ maybe.some v → P v)
    → (j : ℕ) (v : A) → get_elem? (set views id w) j ≡ maybe.some v → P v
each_set P views id w new others j v at = ⊎_elim (λ h. subst P h.1 new) (λ h. others j v h.0 h.1) (at_set views id j w v at)

module _ {O C R : Type 0} where
  pub same_pass : (p q : Pass O C R) → p.table_id ≡ q.table_id → p.id ≡ q.id → p.me ≡ q.me → p ≡ q
  same_pass p q a b m = λ k. record { marker = p.marker; table_id = a k; id = b k; me = m k }

  pub fits_wider : (start : O) (log : List (Entry C R)) (a b : ℕ) (v : View O C R) → a ≤ b → ViewFits start log a v → ViewFits start log b v
  fits_wider start log a b v le f = record {
    same = f.same;
    begins = f.begins;
    within = f.within;
    served = f.served;
    live = f.live;
    spent = f.spent;
    noted = f.noted;
    turn = λ t h. let k = f.turn t h in (k.0, (let l = k.1 in omega arith));
  }

  -- the changed view has no turn that another has
  pub differ_set : (n : ℕ) (views : List (View O C R)) (id : ℕ) (w : View O C R) → TurnsDiffer n views → ((t j : ℕ) (v : View O C R) → j ≢ id → get_elem? views j ≡ maybe.some v → HasTurn n w.stage t → HasTurn n v.stage t → ⊥)
      → TurnsDiffer n (set views id w)
  differ_set n views id w old new i j t v u ne p q a b = ⊎_elim
      (λ h. ⊎_elim (λ k. ne (h.0 ∙ sym k.0)) (λ k. new t j u k.0 k.1 (subst (λ (z : View O C R). HasTurn n z.stage t) (sym h.1) a) b) (at_set views id j w u q))
      (λ h. ⊎_elim (λ k. new t i v h.0 h.1 (subst (λ (z : View O C R). HasTurn n z.stage t) (sym k.1) b) a) (λ k. old i j t v u ne h.1 k.1 a b) (at_set views id j w u q))
      (at_set views id i w v p)

  -- the serving view, where the view id is another, stands where it stood
  pub out_set : (homes : List (maybe.Option (Option (Held O C R)))) (views : List (View O C R)) (id : ℕ) (v w : View O C R) → get_elem? views id ≡ maybe.some v → v.stage ≢ Serving → IsOut homes views → IsOut homes (set views id w)
  out_set homes views id v w at not h = let ne : h.1.0 ≢ id = λ e. not (ap (λ (z : View O C R). z.stage) (same_place views id h.1.0 v h.1.1 (sym e) at h.1.2) ∙ h.1.3) in
      (h.0, (h.1.0, h.1.1, set_else views id h.1.0 w ne ∙ h.1.2, h.1.3))

module _ {O C R : Type 0} (may : O → C → Type 0) (allows : O → C → R → Type 0) (after : O → C → R → O) (kept : O → List (List (Entry C R)) → Type 0) (start : O) where
  abbrev V : Type 0
  V = View O C R

  abbrev S : Type 0
  S = Option (Held O C R)

  abbrev M : Type 0
  M = Me S V

  abbrev Rule : State S V → Type 0
  Rule = InTurns may allows after kept start

  -- a step that changes nothing
  pub same_state : (s : State S V) (i id : ℕ) (me : M) → get_elem? s.views id ≡ maybe.some me.0 → Rule s → Rule (stepped s i (slice_index s.words i) id me.1 me.0 keeps)
  same_state s i id me at r = subst Rule (λ k. record { words = sym (set-get_or s.words i 0) k; homes = s.homes; views = sym (set_again s.views id me.0 at) k }) r

  -- few turns are out
  pub few : (s : State S V) (r : Rule s) → total waiting s.views ≤ 4294967295
  few s r = let le = total_le waiting share_in s.views (λ j v p. (r.each j v p).live) in let all = r.shares in omega arith

  -- where one view has every share, each call of the history is its own
  pub owns_all : (s : State S V) (r : Rule s) (id : ℕ) (v : V) → get_elem? s.views id ≡ maybe.some v → v.share ≡ all_shares → (p : ℕ) → p < length r.log → mark_at v.own p ≡ 1
  owns_all s r id v at all p inside = sym (alone (owns_at p) share_in s.views id v at (r.shares ∙ sym all) (λ j u q zero_share. ap (λ (l : List Bool). mark_at l p) ((r.each j u q).spent zero_share))) ∙ r.owned p inside
