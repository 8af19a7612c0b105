-- What is known of a pass and its slot between the look and the end.
use Rattle.std.proofs.Common.{◌≡◌, ℕ, ◌+◌, ◌%◌, ◌^◌, ◌<◌, ◌≤◌, List, [], ◌∷◌, ◌++◌, length, slice_set, Option, Some, None, sym, ap, ◌∙◌, subst, unwrap_or, length-append, arith}
use mathlib.Core.Option as maybe
use lib.ListN.{get_elem?}
use Rattle.atomic_table.specs.Table.{Me, rest, step, Allows}
use Rattle.turn_lock.specs.declared.history.Entry.{Entry}
use Rattle.turn_lock.specs.declared.view.Stage.TheVariants.{Waiting, Serving}
use Rattle.turn_lock.specs.declared.view.View.{View}
use Rattle.turn_lock.specs.declared.slot.Note.{Note}
use Rattle.turn_lock.specs.declared.slot.Held.{Held}
use Rattle.turn_lock.specs.History.{entry, left_by, Legal, Begins}
use Rattle.turn_lock.specs.Marks.{selected, with_mark, mark_at}
use Rattle.turn_lock.specs.View.{all_shares, ended}
use Rattle.turn_lock.specs.Rule.{InTurns}
use Rattle.turn_lock.specs.Plays.{HasCome, noted_in, noted_by, Ended}
use Rattle.turn_lock.specs.Lock.{Pass, Extends}
use Rattle.turn_lock.proofs.Ends.{end_keeps}
use Rattle.turn_lock.proofs.Histories.{legal_last}
use Rattle.turn_lock.proofs.Marks.{mark_past, selected_all, selected_last}

module _ {O C R : Type 0} where
  held_in : Held O C R → List (ℕ × Option (Held O C R)) → Held O C R
  held_in d [] = d
  held_in d (x ∷ xs) = unwrap_or x.1 d

  one_held : (l : List (ℕ × Option (Held O C R))) (x y : Held O C R) (r : Option (Held O C R)) → l ≡ (0, Some x) ∷ [] → l ≡ (0, r) ∷ rest l → r ≡ Some y → y ≡ x
  unfolding held_in
  one_held l x y r a b e = ap (λ (o : Option (Held O C R)). unwrap_or o x) (sym e) ∙ (ap (held_in x) (sym b) ∙ ap (held_in x) a)

  -- the slot that was put back
  holds_back : (m2 m3 m4 : Me (Option (Held O C R)) (View O C R)) (x back : Held O C R) → m2.1 ≡ (0, Some x) ∷ [] → m3 ≡ (m2.0, (0, None) ∷ rest m2.1) → m4 ≡ (m3.0, (0, Some back) ∷ rest m3.1)
      → (m4.0 ≡ m2.0) × (m4.1 ≡ (0, Some back) ∷ [])
  holds_back m2 m3 m4 x back a b c = (
    ap (λ (m : Me (Option (Held O C R)) (View O C R)). m.0) c ∙ ap (λ (m : Me (Option (Held O C R)) (View O C R)). m.0) b,
    ap (λ (m : Me (Option (Held O C R)) (View O C R)). m.1) c ∙ ap (λ (l : List (ℕ × Option (Held O C R))). (0, Some back) ∷ l) (ap (λ (m : Me (Option (Held O C R)) (View O C R)). rest m.1) b ∙ ap rest a),
  )

  pub notes : (l : List (ℕ × Option (Held O C R))) (back : Held O C R) (z : Note C R) (c : C) (r : R) → l ≡ (0, Some back) ∷ [] → back.last ≡ Some z → z.call.value ≡ c → z.reply.value ≡ r → noted_by l ≡ Some (entry c r)
  notes l back z c r a b d e = ap noted_by a ∙ (ap (noted_in) b ∙ (λ k. Some (entry (d k) (e k))))

module _ {O C R : Type 0} (may : O → C → Type 0) (allows : O → C → R → Type 0) (after : O → C → R → O) (fits : List (Entry C R) → C → Type 0) where
  -- what holds as the slot is given back
  pub record Ready (s0 : O) (v0 : View O C R) (log : List (Entry C R)) (object : O) (call : C) (reply : R) (m : Me (Option (Held O C R)) (View O C R)) : Type 0 where
    pub view : m.0 ≡ record v0 { stage = Serving; seen = log }
    pub begun : v0.start ≡ Some s0
    pub begins : Begins v0.seen log
    pub legal : Legal may allows after s0 log
    pub ok : fits (selected v0.own log) call
    pub may_so : may (left_by after s0 log) call
    pub allows_so : allows (left_by after s0 log) call reply
    pub now : object ≡ after (left_by after s0 log) call reply
    pub picked : selected v0.own log ≡ selected v0.own v0.seen
    pub within : length v0.own ≤ length log

  ready : (s0 : O) (v0 v1 : View O C R) (t : ℕ) (m2 m4 : Me (Option (Held O C R)) (View O C R)) (was object : O) (call : C) (reply : R)
      → v0.start ≡ Some s0 → v1 ≡ record v0 { stage = Waiting t } → (h : HasCome may allows after fits v1 m2) → was ≡ h.0.object → m4.0 ≡ m2.0 → fits (selected v0.own v0.seen) call → allows was call reply → object ≡ after was call reply
      → Ready s0 v0 h.1 object call reply m4
  ready s0 v0 v1 t m2 m4 was object call reply begun e h same m ok a o =
      let from = h.4 s0 (ap (λ (v : View O C R). v.start) e ∙ begun) in
      let now : was ≡ left_by after s0 h.1 = same ∙ from.0 in
      let ok1 : fits (selected v1.own v1.seen) call = subst (λ (v : View O C R). fits (selected v.own v.seen) call) (sym e) ok in record {
        view = m ∙ (h.3 ∙ ap (λ (v : View O C R). record v { stage = Serving; seen = h.1 }) e);
        begins = subst (λ (v : View O C R). Begins v.seen h.1) e h.5;
        begun = begun;
        legal = from.1;
        ok = subst (λ (v : View O C R). fits (selected v.own h.1) call) e (subst (λ (l : List (Entry C R)). fits l call) (sym h.7) ok1);
        may_so = subst (λ (z : O). may z call) (sym same ∙ now) (h.6 call ok1);
        allows_so = subst (λ (z : O). allows z call reply) now a;
        now = o ∙ ap (λ (z : O). after z call reply) now;
        picked = subst (λ (v : View O C R). selected v.own h.1 ≡ selected v.own v.seen) e h.7;
        within = subst (λ (v : View O C R). length v.own ≤ length h.1) e h.8;
      }

  -- the same, from what the exchanges with the slot and the object's own act told
  pub served : (s0 : O) (v0 v1 : View O C R) (t : ℕ) (m2 m3 m4 : Me (Option (Held O C R)) (View O C R)) (held back : Held O C R) (found : Option (Held O C R)) (was object : O) (call : C) (reply : R)
      → v0.start ≡ Some s0 → v1 ≡ record v0 { stage = Waiting t } → (h : HasCome may allows after fits v1 m2)
      → m2.1 ≡ (0, found) ∷ rest m2.1 → found ≡ Some held → m3 ≡ (m2.0, (0, None) ∷ rest m2.1) → m4 ≡ (m3.0, (0, Some back) ∷ rest m3.1)
      → was ≡ held.object → fits (selected v0.own v0.seen) call → allows was call reply → object ≡ after was call reply
      → Ready s0 v0 h.1 object call reply m4 × (m4.1 ≡ (0, Some back) ∷ [])
  served s0 v0 v1 t m2 m3 m4 held back found was object call reply begun e h found_so is_held gone put same ok a o =
      let b = holds_back m2 m3 m4 h.0 back h.2 gone put in
      let one : held ≡ h.0 = one_held m2.1 h.0 held found h.2 found_so is_held in
      (ready s0 v0 v1 t m2 m4 was object call reply begun e h (same ∙ ap (λ (x : Held O C R). x.object) one) b.0 ok a o, b.1)

  -- so the turn may end
  pub ready_ends : (kept : O → List (List (Entry C R)) → Type 0) (start : O)
      → ((o : O) (lists : List (List (Entry C R))) (i : ℕ) (own : List (Entry C R)) (c : C) (r : R) → kept o lists → get_elem? lists i ≡ maybe.some own → fits own c → may o c → allows o c r
      → kept (after o c r) (slice_set lists i (own ++ entry c r ∷ [])))
      → (slots id : ℕ) (m : Me (Option (Held O C R)) (View O C R)) (s0 : O) (v0 : View O C R) (log : List (Entry C R)) (back : Held O C R) (call : C) (reply : R) → Ready s0 v0 log back.object call reply m
      → m.1 ≡ (0, Some back) ∷ [] → noted_by m.1 ≡ Some (entry call reply)
      → Allows (InTurns may allows after kept start) slots id m 1 (λ n. (n + 1) % 2 ^ 64) (Ended (step slots 1 1 0 maybe.none) m)
  ready_ends kept start kept_call slots id m s0 v0 log back call reply r holding noted_so =
      let at : (P : View O C R → Type 0) → P (record v0 { stage = Serving; seen = log }) → P m.0 = λ P. subst P (sym r.view) in
      end_keeps may allows after kept start fits kept_call slots id m back (entry call reply) s0 (ap (λ (v : View O C R). v.start) r.view ∙ r.begun) holding noted_so (ap (λ (v : View O C R). v.stage) r.view)
      (at (λ (v : View O C R). fits (selected v.own v.seen) call) r.ok)
      (at (λ (v : View O C R). may (left_by after s0 v.seen) call) r.may_so)
      (at (λ (v : View O C R). allows (left_by after s0 v.seen) call reply) r.allows_so)
      (at (λ (v : View O C R). back.object ≡ after (left_by after s0 v.seen) call reply) r.now)

  pub extends : (s0 : O) (p q : Pass O C R) (log : List (Entry C R)) (object : O) (call : C) (reply : R) (m : Me (Option (Held O C R)) (View O C R)) → Ready s0 p.me.0 log object call reply m
      → q.me.0 ≡ ended m.0 (entry call reply) → (m.0.share ≡ all_shares → (k : ℕ) → k < length m.0.seen + 1 → mark_at (with_mark m.0.own (length m.0.seen)) k ≡ 1)
      → Extends may allows after s0 p call reply q
  extends s0 p q log object call reply m r e whole =
      let v : View O C R = record p.me.0 { stage = Serving; seen = log } in
      let now : q.me.0 ≡ ended v (entry call reply) = e ∙ ap (λ (z : View O C R). ended z (entry call reply)) r.view in record {
        log = log;
        begins = r.begins;
        seen = ap (λ (z : View O C R). z.seen) now;
        legal = subst (λ (z : View O C R). Legal may allows after s0 z.seen) (sym now) (legal_last may allows after s0 log (entry call reply) r.legal r.may_so r.allows_so);
        own = ap (λ (z : View O C R). z.own) now;
        listed = ap (λ (z : View O C R). selected z.own z.seen) now ∙ (selected_last p.me.0.own log (entry call reply) r.within ∙ ap (λ l. l ++ entry call reply ∷ []) r.picked);
        share = ap (λ (z : View O C R). z.share) now;
        place = mark_past p.me.0.own (length log) r.within;
        whole = λ all. selected_all q.me.0.own q.me.0.seen (λ k inside.
            let w = subst (λ (z : View O C R). z.share ≡ all_shares → (k : ℕ) → k < length z.seen + 1 → mark_at (with_mark z.own (length z.seen)) k ≡ 1) r.view whole in
            ap (λ (z : View O C R). mark_at z.own k) now ∙ w (ap (λ (z : View O C R). z.share) (sym now) ∙ all)
            k (let l = length-append log (entry call reply ∷ []) in let s = ap (λ (z : View O C R). length z.seen) now in omega arith));
      }
