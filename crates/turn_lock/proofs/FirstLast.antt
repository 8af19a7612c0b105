-- The first pass keeps the rule, and the last one has all that the rule speaks of.
use Rattle.std.proofs.Common.{◌≡◌, ◌≢◌, ℕ, zero, suc, List, [], ◌∷◌, ◌++◌, append-nil, length, Option, Some, refl, sym, ap, ◌∙◌, subst, inl, ⊎_elim, arith, length-append}
use mathlib.Core.Logic.{dite}
use mathlib.Core.Option as maybe
use native.Mathlib.Decide.{ℕ_discrete}
use lib.ListN.{get_elem?}
use Rattle.atomic_table.specs.Table.{State, Me, opening}
use Rattle.turn_lock.specs.declared.history.Entry.{Entry}
use Rattle.turn_lock.specs.declared.view.Stage.TheVariants.{Idle, Serving}
use Rattle.turn_lock.specs.declared.view.View.{View}
use Rattle.turn_lock.specs.declared.slot.Held.{Held}
use Rattle.turn_lock.specs.History.{left_by, Legal}
use Rattle.turn_lock.specs.Marks.{selected}
use Rattle.turn_lock.specs.View.{all_shares, waits, HasTurn, share_in, first_view}
use Rattle.turn_lock.specs.Rule.{ViewFits, InTurns}
use Rattle.turn_lock.proofs.Histories.{begins_le, no_items}
use Rattle.turn_lock.proofs.Lists.{same_place, total_two}
use Rattle.turn_lock.proofs.Marks.{covers, selected_all}
use Rattle.turn_lock.proofs.Views.{owns_all}

module _ {O C R : Type 0} (may : O → C → Type 0) (allows : O → C → R → Type 0) (after : O → C → R → O) (kept : O → List (List (Entry C R)) → Type 0) (start : O) where
  abbrev V : Type 0
  V = View O C R

  abbrev S : Type 0
  S = Option (Held O C R)

  abbrev M : Type 0
  M = Me S V

  abbrev Rule : State S V → Type 0
  Rule = InTurns may allows after kept start

  pub open_keeps : (x : Held O C R) → x.object ≡ start → kept start ([] ∷ []) → Rule (opening (0 ∷ 0 ∷ 0 ∷ 0 ∷ 0 ∷ []) (Some x ∷ []) (first_view start))
  open_keeps x is first = record {
    log = [];
    two = omega arith;
    drawn = refl;
    serving = refl;
    legal = tt;
    each = λ j v at. subst (ViewFits start [] 0) (only (first_view start) j v at) (record {
      same = λ _. refl;
      begins = ([], refl);
      within = omega arith;
      turn = λ t h. absurd h;
      served = λ h. cc;
      live = omega arith;
      spent = λ _. refl;
      noted = record { prefix = inl ([], refl); disjoint = λ p. omega arith; left_within = omega arith; right_within = omega arith };
    });
    apart = λ i j t v u ne p q a b. absurd (subst (λ (z : V). HasTurn 0 z.stage t) (sym (only (first_view start) i v p)) a);
    shares = refl;
    owned = λ p h. absurd (omega arith);
    content = inl ((x, refl, is), λ j v at. subst (λ (z : V). z.stage ≢ Serving) (only (first_view start) j v at) (λ e. cc));
    lists = first;
  }
    where
      only : (w : V) (j : ℕ) (v : V) → get_elem? (w ∷ []) j ≡ maybe.some v → w ≡ v
      only w zero v at = maybe.some-injective w v at
      only w (suc j) v at = absurd (maybe.some-ne-none v (sym at))

  -- where the only pass has no turn, the object is at home, and is what its history leaves
  pub alone_at_home : (s : State S V) (r : Rule s) (id : ℕ) (v : V) → get_elem? s.views id ≡ maybe.some v → v.stage ≡ Idle → v.share ≡ all_shares
      → ((x : Held O C R) × (s.homes ≡ maybe.some (Some x) ∷ []) × (x.object ≡ left_by after start v.seen)) × Legal may allows after start v.seen × (selected v.own v.seen ≡ v.seen)
  alone_at_home s r id v at idle all =
      let f = r.each id v at in let owns = owns_all may allows after kept start s r id v at all in let le = begins_le v.seen r.log f.begins in let cover = covers v.own (length r.log) owns in let within = f.within in
      let whole : r.log ≡ v.seen = f.begins.1 ∙ (ap (λ l. v.seen ++ l) (no_items f.begins.0 (let q = ap length f.begins.1 in let p = length-append v.seen f.begins.0 in omega arith)) ∙ append-nil v.seen) in (
        ⊎_elim (λ h. (h.0.0, h.0.1, h.0.2 ∙ ap (left_by after start) whole))
            (λ h. absurd (dite (ℕ_discrete h.1.0 id)
            (λ e. let k : Idle ≡ Serving = sym idle ∙ (ap (λ (z : V). z.stage) (same_place s.views id h.1.0 v h.1.1 (sym e) at h.1.2) ∙ h.1.3) in cc)
            (λ ne. let q = total_two share_in s.views id h.1.0 v h.1.1 (λ e. ne (sym e)) at h.1.2 in let old = r.shares in let live = (r.each h.1.0 h.1.1 h.1.2).live in let one : waits h.1.1.stage ≡ 1 = ap waits h.1.3 in omega arith)))
            r.content,
        subst (Legal may allows after start) whole r.legal,
        selected_all v.own v.seen (λ p inside. owns p (omega arith)),
      )
