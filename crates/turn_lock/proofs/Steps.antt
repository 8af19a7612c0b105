-- A pass draws a turn, and looks whether it has come: both keep the rule.
use Rattle.std.proofs.Common.{◌≡◌, ◌≢◌, ℕ, ◌+◌, ◌%◌, ◌^◌, ◌<◌, ◌≤◌, List, [], ◌∷◌, map, length, set, slice_index, Option, Some, refl, sym, ap, ◌∙◌, subst, inl, inr, ⊎_elim, arith, length-set, get_or-set_other, get_or-set_same}
use mathlib.Core.Logic.{dite}
use mathlib.Core.Option as maybe
use native.Mathlib.Decide.{ℕ_discrete}
use lib.ListN.{get_elem?}
use Rattle.atomic_table.specs.Table.{State, Me, step, keeps, takes, stepped, Allows}
use Rattle.atomic_table.proofs.Lists.{at_map, one_turn, set_again}
use Rattle.turn_lock.specs.declared.history.Entry.{Entry}
use Rattle.turn_lock.specs.declared.view.Stage.{Stage}
use Rattle.turn_lock.specs.declared.view.Stage.TheVariants.{Idle, Waiting, Serving}
use Rattle.turn_lock.specs.declared.view.View.{View}
use Rattle.turn_lock.specs.declared.slot.Held.{Held}
use Rattle.turn_lock.specs.History.{left_by, Legal, total}
use Rattle.turn_lock.specs.Marks.{selected}
use Rattle.turn_lock.specs.View.{waits, HasTurn, waiting, share_in, owns_at, own_in}
use Rattle.turn_lock.specs.Rule.{ViewFits, NoneServes, AtHome, InTurns}
use Rattle.turn_lock.specs.Plays.{Drawn, HasCome, Looked}
use Rattle.turn_lock.proofs.Histories.{begins_itself, begins_le}
use Rattle.turn_lock.proofs.Lists.{map_unseen, same_place, set_at, total_set}
use Rattle.turn_lock.proofs.Marks.{selected_front}
use Rattle.turn_lock.proofs.Views.{differ_set, each_set, few, fits_wider, one_some, one_waiting, out_set, same_state}

module _ {O C R : Type 0} (may : O → C → Type 0) (allows : O → C → R → Type 0) (after : O → C → R → O) (kept : O → List (List (Entry C R)) → Type 0) (start : O) where
  abbrev V : Type 0
  V = View O C R

  abbrev S : Type 0
  S = Option (Held O C R)

  abbrev M : Type 0
  M = Me S V

  abbrev Rule : State S V → Type 0
  Rule = InTurns may allows after kept start

  -- a step on a word of which the rule says nothing
  pub still_keeps : (slots id : ℕ) (me : M) (i : ℕ) (f : ℕ → ℕ) → 2 ≤ i → Allows Rule slots id me i f (λ n m'. m' ≡ me)
  still_keeps slots id me i f past s r long at small =
      let x : ℕ = f (slice_index s.words i) in let q = length-set s.words i x in let two = r.two in
      let words_only : Rule (record { words = set s.words i x; homes = s.homes; views = s.views }) = record {
        log = r.log;
        two = omega arith;
        drawn = get_or-set_other s.words i 0 x 0 (λ e. omega arith) ∙ r.drawn;
        serving = get_or-set_other s.words i 1 x 0 (λ e. omega arith) ∙ r.serving;
        legal = r.legal;
        each = r.each;
        apart = r.apart;
        shares = r.shares;
        owned = r.owned;
        content = r.content;
        lists = r.lists;
      } in
      (me.0, keeps, tt, subst Rule (λ k. record { words = set s.words i x; homes = s.homes; views = sym (set_again s.views id me.0 at) k }) words_only, refl)

  pub draw_keeps : (slots id : ℕ) (me : M) → me.0.stage ≡ Idle → 0 < me.0.share → Allows Rule slots id me 0 (λ n. (n + 1) % 2 ^ 64) (Drawn (step slots 0 1 0 maybe.none) me)
  draw_keeps slots id me idle live s r long at small =
      let n : ℕ = length r.log in let a : ℕ = total waiting s.views in let t : ℕ = n + a in
      let w : V = record me.0 { stage = Waiting t } in let x : ℕ = (slice_index s.words 0 + 1) % 18446744073709551616 in
      let two = r.two in let none_yet : waiting me.0 ≡ 0 = ap waits idle in let sums = total_set waiting s.views id me.0 w at in
      let more : total waiting (set s.views id w) ≡ a + 1 = omega arith in let f = r.each id me.0 at in let found = r.drawn in (
        w,
        keeps,
        tt,
        record {
          log = r.log;
          two = (let q = length-set s.words 0 x in omega arith);
          drawn = get_or-set_same s.words 0 x 0 (omega arith) ∙ (let e : x ≡ (n + total waiting (set s.views id w)) % 18446744073709551616 = omega arith in e);
          serving = get_or-set_other s.words 0 1 x 0 (λ e. omega arith) ∙ r.serving;
          legal = r.legal;
          each = each_set (ViewFits start r.log (total waiting (set s.views id w))) s.views id w
              (record { same = f.same; begins = f.begins; within = f.within; turn = λ u h. (let h' : t ≡ u = h in (omega arith, omega arith)); served = λ h. cc; live = omega arith; spent = f.spent; noted = f.noted })
              (λ j v _ p. fits_wider start r.log a (total waiting (set s.views id w)) v (omega arith) (r.each j v p));
          apart = differ_set n s.views id w r.apart (λ u j v ne p h k. let b = (r.each j v p).turn u k in let h' : t ≡ u = h in omega arith);
          shares = (let q = total_set share_in s.views id me.0 w at in let old = r.shares in omega arith);
          owned = λ p h. (let q = total_set (owns_at p) s.views id me.0 w at in let old = r.owned p h in omega arith);
          content = ⊎_elim (λ h. inl (h.0, each_set (λ v. v.stage ≢ Serving) s.views id w (λ e. cc) (λ j v _ p. h.1 j v p)))
              (λ h. inr (out_set s.homes s.views id me.0 w at (λ e. let k : Idle ≡ Serving = sym idle ∙ e in cc) h)) r.content;
          lists = subst (kept (left_by after start r.log)) (sym (map_unseen (own_in r.log) s.views id me.0 w at refl)) r.lists;
        },
        (refl, (t, found, refl)),
      )

  module _ (fits : List (Entry C R) → C → Type 0) (may_fitting : (o : O) (lists : List (List (Entry C R))) (i : ℕ) (own : List (Entry C R)) (c : C) → kept o lists → get_elem? lists i ≡ maybe.some own → fits own c → may o c) where
    turn_comes : (id : ℕ) (me : M) (t : ℕ) → me.0.stage ≡ Waiting t → me.1 ≡ [] → (s : State S V) (r : Rule s) → get_elem? s.views id ≡ maybe.some me.0 → t ≡ length r.log
        → AtHome (left_by after start r.log) s.homes → NoneServes s.views
        → (w : V) × (a : Rattle.atomic_table.specs.Table.Act S) × Rattle.atomic_table.specs.Table.Valid s.homes me.1 a × Rule (stepped s 1 (slice_index s.words 1) id me.1 w a) × HasCome may allows after fits me.0 (w, Rattle.atomic_table.specs.Table.carried_after me.1 a)
    turn_comes id me t waits_so empty s r at is home none_serves =
        let n : ℕ = length r.log in let a : ℕ = total waiting s.views in let w : V = record me.0 { stage = Serving; seen = r.log } in let x : ℕ = slice_index s.words 1 in
        let two = r.two in let f = r.each id me.0 at in let was : waiting me.0 ≡ 1 = ap waits waits_so in
        let same_sum : total waiting (set s.views id w) ≡ a = (let q = total_set waiting s.views id me.0 w at in omega arith) in
        let shares = f.live in let le = begins_le me.0.seen r.log f.begins in let within = f.within in
        let mine : HasTurn n me.0.stage n = subst (λ (z : Stage). HasTurn n z n) (sym waits_so) is in (
          w,
          takes 0 (Some home.0),
          ap (λ (h : List (maybe.Option S)). get_elem? h 0) home.1,
          record {
            log = r.log;
            two = (let q = length-set s.words 1 x in omega arith);
            drawn = get_or-set_other s.words 1 0 x 0 (λ e. omega arith) ∙ r.drawn ∙ ap (λ (z : ℕ). (n + z) % 18446744073709551616) (sym same_sum);
            serving = get_or-set_same s.words 1 x 0 (omega arith) ∙ r.serving;
            legal = r.legal;
            each = each_set (ViewFits start r.log (total waiting (set s.views id w))) s.views id w
                (record { same = f.same; begins = begins_itself r.log; within = omega arith; turn = λ u h. let b = f.turn n mine in let e : n ≡ u = h in (omega arith, omega arith); served = λ h. refl; live = omega arith; spent = f.spent; noted = f.noted })
                (λ j v _ p. fits_wider start r.log a (total waiting (set s.views id w)) v (omega arith) (r.each j v p));
            apart = differ_set n s.views id w r.apart (λ u j v ne p h k. let e : n ≡ u = h in r.apart j id u v me.0 ne p at k (subst (λ (z : ℕ). HasTurn n me.0.stage z) e mine));
            shares = (let q = total_set share_in s.views id me.0 w at in let old = r.shares in omega arith);
            owned = λ p h. (let q = total_set (owns_at p) s.views id me.0 w at in let old = r.owned p h in omega arith);
            content = inr (ap (λ (h : List (maybe.Option S)). set h 0 maybe.none) home.1, (id, w, set_at s.views id me.0 w at, refl));
            lists = subst (kept (left_by after start r.log)) (sym (map_unseen (own_in r.log) s.views id me.0 w at refl)) r.lists;
          },
          (
            home.0,
            r.log,
            ap (λ (l : List (ℕ × S)). (0, Some home.0) ∷ l) empty,
            refl,
            λ z e. (let k : start ≡ z = one_some start z (sym (f.same (omega arith)) ∙ e) in
                (home.2 ∙ ap (λ (y : O). left_by after y r.log) k, subst (λ (y : O). Legal may allows after y r.log) k r.legal)),
            f.begins,
            λ c ok. may_fitting home.0.object (map (own_in r.log) s.views) id (selected me.0.own r.log) c
                (subst (λ (z : O). kept z (map (own_in r.log) s.views)) (sym home.2) r.lists)
                (at_map (own_in r.log) s.views id me.0 at)
                (subst (λ (l : List (Entry C R)). fits l c) (sym (ap (selected me.0.own) f.begins.1 ∙ selected_front me.0.own me.0.seen f.begins.0 within)) ok),
            ap (selected me.0.own) f.begins.1 ∙ selected_front me.0.own me.0.seen f.begins.0 within,
            omega arith,
          ),
        )

    pub look_keeps : (slots id : ℕ) (me : M) (t : ℕ) → me.0.stage ≡ Waiting t → me.1 ≡ [] → Allows Rule slots id me 1 (λ n. n) (Looked may allows after fits (step slots 1 0 0 maybe.none) me)
    look_keeps slots id me t waits_so empty s r long at small =
        let n : ℕ = length r.log in let x : ℕ = slice_index s.words 1 in let f = r.each id me.0 at in let found = r.serving in let few_out = few may allows after kept start s r in
        let b = f.turn t (subst (λ (z : Stage). HasTurn n z t) (sym waits_so) refl) in
        let other : (u : ℕ) → me.0.stage ≡ Waiting u → t ≡ u = λ u e. one_waiting t u (sym waits_so ∙ e) in
        dite (ℕ_discrete x (t % 18446744073709551616))
        (λ hit. let is : t ≡ n = sym (one_turn n t 18446744073709551616 b.0 (omega arith) (sym found ∙ hit)) in
        ⊎_elim (λ h. let z = turn_comes id me t waits_so empty s r at is h.0 h.1 in (z.0, z.1, z.2, z.3, λ u e. ((λ _. z.4), λ not. absurd (not (hit ∙ ap (λ (k : ℕ). k % 18446744073709551616) (other u e))))))
        (λ h. absurd (
        let theirs : HasTurn n h.1.1.stage n = subst (λ (z : Stage). HasTurn n z n) (sym h.1.3) refl in
        let mine : HasTurn n me.0.stage n = subst (λ (z : Stage). HasTurn n z n) (sym waits_so) is in
        dite (ℕ_discrete h.1.0 id)
        (λ e. let k : Waiting t ≡ Serving = sym waits_so ∙ (ap (λ (z : V). z.stage) (same_place s.views id h.1.0 me.0 h.1.1 (sym e) at h.1.2) ∙ h.1.3) in cc)
        (λ ne. r.apart h.1.0 id n h.1.1 me.0 ne h.1.2 at theirs mine)))
        r.content)
        (λ miss. (me.0, keeps, tt, same_state may allows after kept start s 1 id me at r, λ u e. ((λ hit. absurd (miss (hit ∙ ap (λ (k : ℕ). k % 18446744073709551616) (sym (other u e))))), λ _. refl)))
