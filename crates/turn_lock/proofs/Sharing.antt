-- Passes that are split and joined keep the rule.
use Rattle.std.proofs.Common.{◌≡◌, ◌≢◌, ℕ, ◌+◌, ◌-◌, ◌%◌, ◌<◌, ◌≤◌, ◌⊎◌, List, [], ◌∷◌, ◌++◌, map, length, set, Option, Some, nat_lt, refl, sym, ap, ◌∙◌, subst, inl, inr, ⊎_elim, arith}
use mathlib.Core.List.{map-append}
use mathlib.Core.Option as maybe
use lib.ListN.{get_elem?}
use Rattle.atomic_table.specs.Table.{State, Me, step, keeps, Allows, Splits}
use Rattle.atomic_table.proofs.Lists.{at_map, at_snoc, at_longer, set_else}
use Rattle.turn_lock.specs.declared.history.Entry.{Entry}
use Rattle.turn_lock.specs.declared.view.Stage.TheVariants.{Idle, Serving}
use Rattle.turn_lock.specs.declared.view.View.{View}
use Rattle.turn_lock.specs.declared.slot.Held.{Held}
use Rattle.turn_lock.specs.History.{left_by, Legal, Interleaves, total, longer}
use Rattle.turn_lock.specs.Marks.{selected, mark_at}
use Rattle.turn_lock.specs.View.{all_shares, waits, HasTurn, waiting, share_in, owns_at, own_in, split_old, split_new, joined, spent_view, JoinedParts}
use Rattle.turn_lock.specs.Lock.{Pass, own_of, Joins}
use Rattle.turn_lock.specs.Rule.{ViewFits, InTurns}
use Rattle.turn_lock.specs.Plays.{Confirmed}
use Rattle.turn_lock.proofs.Histories.{begins_le, interleaves_longer, legal_front, longer_begins, longer_le, one_begins}
use Rattle.turn_lock.proofs.Lists.{map_changed, map_unseen, total_set, total_snoc, total_two}
use Rattle.turn_lock.proofs.Marks.{interleaves, length_merged, mark_merged, mark_past, selected_all}
use Rattle.turn_lock.proofs.Views.{differ_set, each_set, one_some, out_set, owns_all, same_state}

module _ {O C R : Type 0} (may : O → C → Type 0) (allows : O → C → R → Type 0) (after : O → C → R → O) (kept : O → List (List (Entry C R)) → Type 0) (start : O) where
  abbrev V : Type 0
  V = View O C R

  abbrev S : Type 0
  S = Option (Held O C R)

  abbrev M : Type 0
  M = Me S V

  abbrev Rule : State S V → Type 0
  Rule = InTurns may allows after kept start

  pub split_keeps : (kept_new : (o : O) (lists : List (List (Entry C R))) → kept o lists → kept o (lists ++ [] ∷ []))
      → (id : ℕ) (v : V) → v.stage ≡ Idle → 1 < v.share → Splits Rule id v (split_old v) (split_new v)
  split_keeps kept_new id v idle some s r at =
      let a : V = split_old v in let b : V = split_new v in let views : List V = set s.views id a in let new : List V = views ++ b ∷ [] in let f = r.each id v at in
      let none : (t n : ℕ) → HasTurn n v.stage t → ⊥ = λ t n h. subst (λ z. HasTurn n z t) idle h in
      let sums : total waiting new ≡ total waiting s.views = (let p = total_snoc waiting views b in let q = total_set waiting s.views id v a at in omega arith) in record {
        log = r.log;
        two = r.two;
        drawn = r.drawn ∙ ap (λ (z : ℕ). (length r.log + z) % 18446744073709551616) (sym sums);
        serving = r.serving;
        legal = r.legal;
        each = λ j u p. subst (λ (z : ℕ). ViewFits start r.log z u) (sym sums) (⊎_elim
            (λ q. each_set (ViewFits start r.log (total waiting s.views)) s.views id a
            (record { same = λ h. f.same (omega arith); begins = f.begins; within = f.within; turn = f.turn; served = f.served; live = subst (λ z. waits z ≤ v.share - 1) (sym idle) (omega arith); spent = λ h. absurd (omega arith); noted = f.noted })
            (λ i w _ z. r.each i w z) j u q)
            (λ (e : b ≡ u). subst (ViewFits start r.log (total waiting s.views)) e
            (record { same = λ h. f.same (omega arith); begins = f.begins; within = omega arith; turn = λ t h. absurd h; served = λ h. cc; live = omega arith; spent = λ h. refl; noted = f.noted }))
            (at_snoc views b u j p));
        apart = λ i j t u w ne p q h k. ⊎_elim
            (λ p'. ⊎_elim (λ q'. differ_set (length r.log) s.views id a r.apart (λ y _ _ _ _ z _. none y (length r.log) z) i j t u w ne p' q' h k)
            (λ (e : b ≡ w). absurd (subst (λ (z : V). HasTurn (length r.log) z.stage t) (sym e) k)) (at_snoc views b w j q))
            (λ (e : b ≡ u). absurd (subst (λ (z : V). HasTurn (length r.log) z.stage t) (sym e) h)) (at_snoc views b u i p);
        shares = (let p = total_snoc share_in views b in let q = total_set share_in s.views id v a at in let old = r.shares in omega arith);
        owned = λ k inside. (let p = total_snoc (owns_at k) views b in let q = total_set (owns_at k) s.views id v a at in let old = r.owned k inside in omega arith);
        content = ⊎_elim
            (λ h. inl (
              h.0,
              λ j u p. ⊎_elim (each_set (λ (z : V). z.stage ≢ Serving) s.views id a (λ e. h.1 id v at e) (λ i w _ z. h.1 i w z) j u)
                  (λ (e : b ≡ u). subst (λ (z : V). z.stage ≢ Serving) e (λ e. cc)) (at_snoc views b u j p),
            ))
            (λ h. let w = out_set s.homes s.views id v a at (λ e. let k : Idle ≡ Serving = sym idle ∙ e in cc) h in inr (w.0, (w.1.0, w.1.1, at_longer views (b ∷ []) w.1.0 w.1.1 w.1.2, w.1.3)))
            r.content;
        lists = subst (kept (left_by after start r.log)) (sym (map-append (own_in r.log) views (b ∷ []) ∙ ap (λ l. l ++ [] ∷ []) (map_unseen (own_in r.log) s.views id v a at refl)))
            (kept_new (left_by after start r.log) (map (own_in r.log) s.views) r.lists);
      }

  pub join_keeps : (kept_join : (o : O) (lists : List (List (Entry C R))) (i j : ℕ) (xs ys zs : List (Entry C R))
      → kept o lists → get_elem? lists i ≡ maybe.some xs → j ≢ i → get_elem? lists j ≡ maybe.some ys → Interleaves xs ys zs → kept o (set (set lists i zs) j []))
      → (id : ℕ) (v : V) (other : ℕ) (w : V) → v.stage ≡ Idle → 0 < v.share → w.stage ≡ Idle → 0 < w.share → Rattle.atomic_table.specs.Table.Joins Rule id v other w (joined v w) spent_view
  join_keeps kept_join id v other w idle live idle' live' s r at apart there =
      let b : V = joined v w in let e : V = spent_view in let half : List V = set s.views id b in let new : List V = set half other e in
      let there' : get_elem? s.views other ≡ maybe.some w = sym (set_else s.views id other b apart) ∙ there in let f = r.each id v at in let h = r.each other w there' in
      let two_sums : (g : V → ℕ) → (total g new + g w) + g v ≡ (total g s.views + g b) + g e = λ g. (let p = total_set g s.views id v b at in let q = total_set g half other w e there in omega arith) in
      let calm : waiting v ≡ 0 = ap waits idle in let calm' : waiting w ≡ 0 = ap waits idle' in
      let sums : total waiting new ≡ total waiting s.views = (let p = two_sums waiting in omega arith) in
      let le = begins_le v.seen r.log f.begins in let le' = begins_le w.seen r.log h.begins in let within = f.within in let within' = h.within in
      let disjoint : (p : ℕ) → mark_at v.own p + mark_at w.own p ≤ 1 = λ p. Rattle.std.proofs.Common.⊎_elim
      (λ inside. let q = total_two (owns_at p) s.views id other v w (λ z. apart (sym z)) at there' in let o = r.owned p inside in omega arith)
      (λ past. let m = mark_past v.own p (omega arith) in let n = mark_past w.own p (omega arith) in omega arith)
      (lt_or p (length r.log)) in
      let long = longer_le v.seen w.seen in
      let not_serving : v.stage ≢ Serving = λ z. let k : Idle ≡ Serving = sym idle ∙ z in cc in let not_serving' : w.stage ≢ Serving = λ z. let k : Idle ≡ Serving = sym idle' ∙ z in cc in record {
        log = r.log;
        two = r.two;
        drawn = r.drawn ∙ ap (λ (z : ℕ). (length r.log + z) % 18446744073709551616) (sym sums);
        serving = r.serving;
        legal = r.legal;
        each = subst (λ (z : ℕ). (j : ℕ) (u : V) → get_elem? new j ≡ maybe.some u → ViewFits start r.log z u) (sym sums)
            (each_set (ViewFits start r.log (total waiting s.views)) half other e
            (record { same = λ z. absurd (omega arith); begins = (r.log, refl); within = omega arith; turn = λ t z. absurd z; served = λ z. cc; live = omega arith; spent = λ z. refl; noted = record { prefix = inl ([], refl); disjoint = λ p. omega arith; left_within = omega arith; right_within = omega arith } })
            (λ j u _ p. each_set (ViewFits start r.log (total waiting s.views)) s.views id b
            (record {
              same = λ z. f.same live;
              begins = longer_begins v.seen w.seen r.log f.begins h.begins (nat_lt (length v.seen) (length w.seen));
              within = length_merged v.own w.own (length (longer v.seen w.seen)) (let q = long.0 in omega arith) (let q = long.1 in omega arith);
              turn = λ t z. absurd z;
              served = λ z. cc;
              live = omega arith;
              spent = λ z. absurd (omega arith);
              noted = record { prefix = one_begins v.seen w.seen f.begins.0 h.begins.0 (sym f.begins.1 ∙ h.begins.1); disjoint = disjoint; left_within = within; right_within = within' };
            })
            (λ i x _ z. r.each i x z) j u p));
        apart = differ_set (length r.log) half other e (differ_set (length r.log) s.views id b r.apart (λ t _ _ _ _ z _. absurd z)) (λ t _ _ _ _ z _. absurd z);
        shares = (let p = two_sums share_in in let old = r.shares in omega arith);
        owned = λ k inside. (let p = two_sums (owns_at k) in let old = r.owned k inside in let m = mark_merged v.own w.own k (disjoint k) in omega arith);
        content = ⊎_elim
            (λ c. inl (c.0, each_set (λ (z : V). z.stage ≢ Serving) half other e (λ z. cc) (λ j u _ p. each_set (λ (z : V). z.stage ≢ Serving) s.views id b (λ z. cc) (λ i x _ q. c.1 i x q) j u p)))
            (λ c. inr (out_set s.homes half other w e there not_serving' (out_set s.homes s.views id v b at not_serving c))) r.content;
        lists = subst (kept (left_by after start r.log)) (sym (map_changed (own_in r.log) half other e ∙ ap (λ l. set l other []) (map_changed (own_in r.log) s.views id b)))
            (kept_join (left_by after start r.log) (map (own_in r.log) s.views) id other (selected v.own r.log) (selected w.own r.log) (selected b.own r.log) r.lists
            (at_map (own_in r.log) s.views id v at) apart (at_map (own_in r.log) s.views other w there') (interleaves v.own w.own r.log disjoint));
      }
    where
      lt_or : (a c : ℕ) → (a < c) ⊎ (c ≤ a)
      lt_or a c = elim (native.Mathlib.Decide.dec_lt a c) [ yes d ↦ inl d | no d ↦ inr (omega arith) ]

  pub confirm_keeps : (slots id : ℕ) (me : M) → 0 < me.0.share → Allows Rule slots id me 0 (λ n. n) (Confirmed may allows after (step slots 0 0 0 maybe.none) me)
  confirm_keeps slots id me live s r long at small = let f = r.each id me.0 at in (
    me.0,
    keeps,
    tt,
    same_state may allows after kept start s 0 id me at r,
    (
      refl,
      f.noted,
      λ z e. let k : start ≡ z = one_some start z (sym (f.same live) ∙ e) in
          subst (λ (y : O). Legal may allows after y me.0.seen) k (legal_front may allows after start me.0.seen f.begins.0 (subst (Legal may allows after start) f.begins.1 r.legal)),
      λ all p inside. owns_all may allows after kept start s r id me.0 at all p (let le = begins_le me.0.seen r.log f.begins in omega arith),
    ),
  )

module _ {O C R : Type 0} (may : O → C → Type 0) (allows : O → C → R → Type 0) (after : O → C → R → O) where
  -- what a join and the load behind it told
  pub join_told : (start : O) (p o q : Pass O C R) (m : Me (Option (Held O C R)) (View O C R)) → p.me.0.start ≡ Some start → m.0 ≡ joined p.me.0 o.me.0
      → Confirmed may allows after (step 0 0 0 0 maybe.none) m 0 q.me → Joins may allows after start p o q
  join_told start p o q m begun e h =
      let v : View O C R = joined p.me.0 o.me.0 in
      let same : q.me.0 ≡ v = ap (λ (z : Me (Option (Held O C R)) (View O C R)). z.0) h.0 ∙ e in
      let parts : JoinedParts v = subst (λ (z : View O C R). JoinedParts z) e h.1 in
      let legal : Legal may allows after start v.seen = subst (λ (z : View O C R). Legal may allows after start z.seen) e (h.2 start (ap (λ (z : View O C R). z.start) e ∙ begun)) in
      let owns : v.share ≡ all_shares → (k : ℕ) → k < length v.seen → mark_at v.own k ≡ 1 = subst (λ (z : View O C R). z.share ≡ all_shares → (k : ℕ) → k < length z.seen → mark_at z.own k ≡ 1) e h.3 in record {
        prefix = parts.prefix;
        seen = ap (λ (z : View O C R). z.seen) same;
        legal = subst (λ (z : View O C R). Legal may allows after start z.seen) (sym same) legal;
        disjoint = parts.disjoint;
        own = ap (λ (z : View O C R). z.own) same;
        listed = subst (λ (z : View O C R). Interleaves (own_of p) (own_of o) (selected z.own z.seen)) (sym same)
            (interleaves_longer p.me.0.own o.me.0.own p.me.0.seen o.me.0.seen parts.prefix parts.disjoint parts.left_within parts.right_within);
        share = ap (λ (z : View O C R). z.share) same;
        whole = λ all. subst (λ (z : View O C R). selected z.own z.seen ≡ z.seen) (sym same) (selected_all v.own v.seen (owns (ap (λ (z : View O C R). z.share) (sym same) ∙ all)));
      }
