-- The end of a turn keeps the rule.
use Rattle.std.proofs.Common.{◌≡◌, ◌≢◌, ℕ, ◌+◌, ◌%◌, ◌^◌, ◌≤◌, List, [], ◌∷◌, ◌++◌, append-nil, map, length, set, slice_set, slice_index, Option, Some, refl, sym, ap, ◌∙◌, subst, subst₂, inl, ⊎_elim, arith, length-append, length-set, get_or-set_other, get_or-set_same, unwrap_or}
use mathlib.Core.Logic.{dite}
use mathlib.Core.Option as maybe
use native.Mathlib.Decide.{ℕ_discrete}
use lib.ListN.{get_elem?}
use Rattle.atomic_table.specs.Table.{State, Me, step, keeps, gives, rest, stepped, Allows}
use Rattle.atomic_table.proofs.Lists.{at_set, at_map}
use Rattle.turn_lock.specs.declared.history.Entry.{Entry}
use Rattle.turn_lock.specs.declared.view.Stage.{Stage}
use Rattle.turn_lock.specs.declared.view.Stage.TheVariants.{Serving}
use Rattle.turn_lock.specs.declared.view.View.{View}
use Rattle.turn_lock.specs.declared.slot.Held.{Held}
use Rattle.turn_lock.specs.History.{entry, left_by, total}
use Rattle.turn_lock.specs.Marks.{selected, with_mark, mark_at}
use Rattle.turn_lock.specs.View.{waits, HasTurn, waiting, share_in, owns_at, own_in, ended}
use Rattle.turn_lock.specs.Rule.{ViewFits, InTurns}
use Rattle.turn_lock.specs.Plays.{noted_by, Ended}
use Rattle.turn_lock.proofs.Histories.{begins_le, begins_more, left_by_last, legal_last}
use Rattle.turn_lock.proofs.Lists.{map_changed, map_same, total_none, total_set}
use Rattle.turn_lock.proofs.Marks.{length_with_mark, mark_new, mark_old, mark_past, selected_front, selected_last}
use Rattle.turn_lock.proofs.Views.{each_set, one_some, owns_all, turn_same}

module _ {O C R : Type 0} (may : O → C → Type 0) (allows : O → C → R → Type 0) (after : O → C → R → O) (kept : O → List (List (Entry C R)) → Type 0) (start : O) where
  abbrev V : Type 0
  V = View O C R

  abbrev S : Type 0
  S = Option (Held O C R)

  abbrev M : Type 0
  M = Me S V

  abbrev Rule : State S V → Type 0
  Rule = InTurns may allows after kept start

  module _ (fits : List (Entry C R) → C → Type 0)
      (kept_call : (o : O) (lists : List (List (Entry C R))) (i : ℕ) (own : List (Entry C R)) (c : C) (r : R) → kept o lists → get_elem? lists i ≡ maybe.some own → fits own c → may o c → allows o c r
      → kept (after o c r) (slice_set lists i (own ++ entry c r ∷ []))) where
    turn_ends : (id : ℕ) (me : M) (x : Held O C R) (e : Entry C R) → me.1 ≡ (0, Some x) ∷ [] → me.0.stage ≡ Serving
        → (s : State S V) (r : Rule s) → get_elem? s.views id ≡ maybe.some me.0
        → fits (selected me.0.own r.log) e.call → may (left_by after start r.log) e.call → allows (left_by after start r.log) e.call e.reply → x.object ≡ after (left_by after start r.log) e.call e.reply
        → Rule (stepped s 1 ((slice_index s.words 1 + 1) % 18446744073709551616) id me.1 (ended me.0 e) gives)
    turn_ends id me x e holding serves s r at ok may_so allows_so now =
        let n : ℕ = length r.log in let a : ℕ = total waiting s.views in let w : V = ended me.0 e in let y : ℕ = (slice_index s.words 1 + 1) % 18446744073709551616 in
        let log' : List (Entry C R) = r.log ++ e ∷ [] in let views' : List V = set s.views id w in let a' : ℕ = total waiting views' in
        let two = r.two in let f = r.each id me.0 at in let was : waiting me.0 ≡ 1 = ap waits serves in let seen : me.0.seen ≡ r.log = f.served serves in
        let len : length log' ≡ n + 1 = length-append r.log (e ∷ []) in let same_len : length me.0.seen ≡ n = ap length seen in
        let fewer : a' + 1 ≡ a = (let q = total_set waiting s.views id me.0 w at in omega arith) in
        let mine : HasTurn n me.0.stage n = subst (λ (z : Stage). HasTurn n z n) (sym serves) refl in
        let live = f.live in let within = f.within in let was_drawn = r.drawn in let was_serving = r.serving in
        let not_serving : (j : ℕ) (v : V) → j ≢ id → get_elem? s.views j ≡ maybe.some v → v.stage ≢ Serving = λ j v ne p q. r.apart j id n v me.0 ne p at (subst (λ (z : Stage). HasTurn n z n) (sym q) refl) mine in
        let short : (j : ℕ) (v : V) → get_elem? s.views j ≡ maybe.some v → length v.own ≤ n = λ j v p. (let g = r.each j v p in let b = begins_le v.seen r.log g.begins in let c = g.within in omega arith) in
        let left : left_by after start log' ≡ after (left_by after start r.log) e.call e.reply = left_by_last after start r.log e in
        let picked : selected w.own log' ≡ selected me.0.own r.log ++ e ∷ [] = ap (λ (k : ℕ). selected (with_mark me.0.own k) log') same_len ∙ selected_last me.0.own r.log e (omega arith) in
        let lists : map (own_in log') views' ≡ set (map (own_in r.log) s.views) id (selected me.0.own r.log ++ e ∷ []) =
        map_changed (own_in log') s.views id w ∙ (λ k. set (map_same (own_in log') (own_in r.log) s.views (λ j v p. selected_front v.own r.log (e ∷ []) (short j v p)) k) id (picked k)) in
        record {
          log = log';
          two = (let q = length-set s.words 1 y in omega arith);
          drawn = get_or-set_other s.words 1 0 y 0 (λ z. omega arith) ∙ (was_drawn ∙ ap (λ (z : ℕ). z % 18446744073709551616) (let q : n + a ≡ length log' + a' = omega arith in q));
          serving = get_or-set_same s.words 1 y 0 (omega arith) ∙ (let q : y ≡ length log' % 18446744073709551616 = omega arith in q);
          legal = legal_last may allows after start r.log e r.legal may_so allows_so;
          each = each_set (ViewFits start log' a') s.views id w
              (record {
                same = f.same;
                begins = ([], ap (λ (l : List (Entry C R)). l ++ e ∷ []) (sym seen) ∙ sym (append-nil (me.0.seen ++ e ∷ [])));
                within = (let q = length_with_mark me.0.own (length me.0.seen) within in let l = length-append me.0.seen (e ∷ []) in omega arith);
                turn = λ t h. absurd h;
                served = λ h. cc;
                live = omega arith;
                spent = λ h. absurd (let q : me.0.share ≡ 0 = h in omega arith);
                noted = f.noted;
              })
              (λ j v ne p. let g = r.each j v p in let away = not_serving j v ne p in record {
                same = g.same;
                begins = begins_more v.seen r.log (e ∷ []) g.begins;
                within = g.within;
                turn = λ t h. let h' = turn_same (length log') n t v.stage away h in let b = g.turn t h' in
                    let other : t ≢ n = λ q. r.apart j id n v me.0 ne p at (subst (HasTurn n v.stage) q h') mine in (omega arith, omega arith);
                served = λ q. absurd (away q);
                live = g.live;
                spent = g.spent;
                noted = g.noted;
              });
          apart = λ i j t v u ne p q h k. ⊎_elim
              (λ z. absurd (subst (λ (b : V). HasTurn (length log') b.stage t) (sym z.1) h))
              (λ z. ⊎_elim (λ b. absurd (subst (λ (b : V). HasTurn (length log') b.stage t) (sym b.1) k))
              (λ b. r.apart i j t v u ne z.1 b.1 (turn_same (length log') n t v.stage (not_serving i v z.0 z.1) h) (turn_same (length log') n t u.stage (not_serving j u b.0 b.1) k)) (at_set s.views id j w u q))
              (at_set s.views id i w v p);
          shares = (let q = total_set share_in s.views id me.0 w at in let old = r.shares in omega arith);
          owned = λ p inside. (let q = total_set (owns_at p) s.views id me.0 w at in dite (ℕ_discrete p n)
              (λ is. let new : owns_at p w ≡ 1 = ap (mark_at (with_mark me.0.own (length me.0.seen))) (is ∙ sym same_len) ∙ mark_new me.0.own (length me.0.seen) in
              let none_yet : total (owns_at p) s.views ≡ 0 = total_none (owns_at p) s.views (λ j v at'. mark_past v.own p (let b = short j v at' in omega arith)) in
              let mine_not : owns_at p me.0 ≡ 0 = mark_past me.0.own p (omega arith) in omega arith)
              (λ ne. let old = r.owned p (omega arith) in let still : owns_at p w ≡ owns_at p me.0 = mark_old me.0.own (length me.0.seen) p (λ z. ne (z ∙ same_len)) in omega arith));
          content = ⊎_elim (λ h. absurd (h.1 id me.0 at serves))
              (λ h. inl (
                (x, (λ k. Rattle.atomic_table.specs.Table.put_back (h.0 k) (holding k)), now ∙ sym left),
                each_set (λ (v : V). v.stage ≢ Serving) s.views id w (λ z. cc) not_serving,
              )) r.content;
          lists = subst₂ kept (sym left) (sym lists)
              (kept_call (left_by after start r.log) (map (own_in r.log) s.views) id (selected me.0.own r.log) e.call e.reply r.lists (at_map (own_in r.log) s.views id me.0 at) ok may_so allows_so);
        }

    pub end_keeps : (slots id : ℕ) (me : M) (x : Held O C R) (e : Entry C R) (s0 : O) → me.0.start ≡ Some s0 → me.1 ≡ (0, Some x) ∷ [] → noted_by me.1 ≡ Some e → me.0.stage ≡ Serving
        → fits (selected me.0.own me.0.seen) e.call → may (left_by after s0 me.0.seen) e.call → allows (left_by after s0 me.0.seen) e.call e.reply
        → x.object ≡ after (left_by after s0 me.0.seen) e.call e.reply
        → Allows Rule slots id me 1 (λ n. (n + 1) % 2 ^ 64) (Ended (step slots 1 1 0 maybe.none) me)
    end_keeps slots id me x e s0 begun holding notes serves ok may_so allows_so now s r long at small =
        let f = r.each id me.0 at in let live = f.live in let was : waiting me.0 ≡ 1 = ap waits serves in
        let k : s0 ≡ start = one_some s0 start (sym begun ∙ f.same (omega arith)) in let seen : me.0.seen ≡ r.log = f.served serves in
        let o : left_by after s0 me.0.seen ≡ left_by after start r.log = λ i. left_by after (k i) (seen i) in (
          ended me.0 e,
          gives,
          tt,
          turn_ends id me x e holding serves s r at (subst (λ (l : List (Entry C R)). fits (selected me.0.own l) e.call) seen ok) (subst (λ (z : O). may z e.call) o may_so)
              (subst (λ (z : O). allows z e.call e.reply) o allows_so) (now ∙ ap (λ (z : O). after z e.call e.reply) o),
          (
            ap rest holding,
            λ e' h. (
              ap (λ (q : Option (Entry C R)). ended me.0 (unwrap_or q e)) (sym notes ∙ h),
              λ all p inside. dite (ℕ_discrete p (length me.0.seen))
                  (λ is. ap (mark_at (with_mark me.0.own (length me.0.seen))) is ∙ mark_new me.0.own (length me.0.seen))
                  (λ ne. mark_old me.0.own (length me.0.seen) p ne ∙ owns_all may allows after kept start s r id me.0 at all p (let q = ap length seen in omega arith)),
            ),
          ),
        )
