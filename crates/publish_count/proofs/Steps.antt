-- Each step of the count keeps its rule.
use Rattle.std.proofs.Common.{◌≡◌, ℕ, zero, suc, ◌+◌, ◌-◌, ◌%◌, ◌^◌, ◌<◌, List, [], ◌∷◌, ◌++◌, set, slice_index, refl, sym, ap, ◌∙◌, subst, ⊎_elim, arith, length-set, get_or-set_same}
use mathlib.Core.Option as maybe
use lib.ListN.{get_elem?}
use Rattle.atomic_table.specs.Table.{Me, step, keeps, Allows, Splits, Joins, opening}
use Rattle.atomic_table.proofs.Lists.{at_set, at_snoc, set_again}
use Rattle.turn_lock.specs.History.{total}
use Rattle.turn_lock.proofs.Lists.{total_set, total_snoc, alone}
use Rattle.publish_count.specs.declared.view.View.{View}
use Rattle.publish_count.specs.Count.{counted}
use Rattle.publish_count.specs.Plays.{Added, Glanced, TakenBack}
use Rattle.publish_count.specs.Rule.{Counted}
use Rattle.publish_count.specs.View.{count_in, share_in, first_view, split_old, split_new, joined, spent_view}

pub opens : Counted (opening (1 ∷ []) [] first_view)
opens = record { one = refl; word = refl; shares = refl; spent = λ j v p z. only j v p z }
  where
    only : (j : ℕ) (v : View) → get_elem? (first_view ∷ []) j ≡ maybe.some v → v.share ≡ 0 → v.count ≡ 0
    only zero v p z = sym (ap count_in (maybe.some-injective first_view v p))
    only (suc j) v p z = absurd (maybe.some-ne-none v (sym p))

pub add_keeps : (slots id : ℕ) (me : Me (Unit {0}) View) → 0 < me.0.share → Allows Counted slots id me 0 (λ n. (n + 1) % 2 ^ 64) (Added (step slots 0 1 0 maybe.none) me)
add_keeps slots id me live s r long at small =
    let w : View = record me.0 { count = me.0.count + 1 } in let x : ℕ = (slice_index s.words 0 + 1) % 18446744073709551616 in let one = r.one in let was = r.word in
    let sums = total_set count_in s.views id me.0 w at in let shares = total_set share_in s.views id me.0 w at in let all = r.shares in (
      w,
      keeps,
      tt,
      record {
        one = length-set s.words 0 x ∙ one;
        word = get_or-set_same s.words 0 x 0 (omega arith) ∙ (let e : x ≡ (1 + total count_in (set s.views id w)) % 18446744073709551616 = omega arith in e);
        shares = omega arith;
        spent = λ j v p z. ⊎_elim (λ h. absurd (let q = ap share_in h.1 in omega arith)) (λ h. r.spent j v h.1 z) (at_set s.views id j w v p);
      },
      (refl, refl),
    )

pub take_back_keeps : (slots id : ℕ) (me : Me (Unit {0}) View) → 0 < me.0.share → 0 < me.0.count → Allows Counted slots id me 0 (λ n. (n + (2 ^ 64 - 1)) % 2 ^ 64) (TakenBack (step slots 0 1 0 maybe.none) me)
take_back_keeps slots id me live some s r long at small =
    let w : View = record me.0 { count = me.0.count - 1 } in let x : ℕ = (slice_index s.words 0 + 18446744073709551615) % 18446744073709551616 in let one = r.one in let was = r.word in
    let sums = total_set count_in s.views id me.0 w at in let shares = total_set share_in s.views id me.0 w at in let all = r.shares in (
      w,
      keeps,
      tt,
      record {
        one = length-set s.words 0 x ∙ one;
        word = get_or-set_same s.words 0 x 0 (omega arith) ∙ (let e : x ≡ (1 + total count_in (set s.views id w)) % 18446744073709551616 = omega arith in e);
        shares = omega arith;
        spent = λ j v p z. ⊎_elim (λ h. absurd (let q = ap share_in h.1 in omega arith)) (λ h. r.spent j v h.1 z) (at_set s.views id j w v p);
      },
      (refl, refl),
    )

pub glance_keeps : (slots id : ℕ) (me : Me (Unit {0}) View) → Allows Counted slots id me 0 (λ n. n) (Glanced (step slots 0 0 0 maybe.none) me)
glance_keeps slots id me s r long at small = (
  me.0,
  keeps,
  tt,
  subst Counted (λ k. record { words = sym (lib.Seq.set-get_or s.words 0 0) k; homes = s.homes; views = sym (set_again s.views id me.0 at) k }) r,
  (refl, λ all. r.word ∙ ap counted (alone count_in share_in s.views id me.0 at (r.shares ∙ sym all) (λ j v p z. r.spent j v p z))),
)

pub split_keeps : (id : ℕ) (v : View) → 1 < v.share → Splits Counted id v (split_old v) (split_new v)
split_keeps id v some s r at =
    let a : View = split_old v in let b : View = split_new v in let vs : List View = set s.views id a in
    let p = total_snoc count_in vs b in let q = total_set count_in s.views id v a at in let p' = total_snoc share_in vs b in let q' = total_set share_in s.views id v a at in let all = r.shares in record {
      one = r.one;
      word = r.word ∙ ap counted (let e : total count_in s.views ≡ total count_in (vs ++ b ∷ []) = omega arith in e);
      shares = omega arith;
      spent = λ j u h z. ⊎_elim (λ k. ⊎_elim (λ l. absurd (let m = ap share_in l.1 in omega arith)) (λ l. r.spent j u l.1 z) (at_set s.views id j a u k)) (λ (e : b ≡ u). absurd (let m = ap share_in e in omega arith)) (at_snoc vs b u j h);
    }

pub join_keeps : (id : ℕ) (v : View) (other : ℕ) (w : View) → 0 < v.share → Joins Counted id v other w (joined v w) spent_view
join_keeps id v other w live s r at apart there =
    let b : View = joined v w in let half : List View = set s.views id b in let new : List View = set half other spent_view in
    let p = total_set count_in s.views id v b at in let q = total_set count_in half other w spent_view there in
    let p' = total_set share_in s.views id v b at in let q' = total_set share_in half other w spent_view there in let all = r.shares in record {
      one = r.one;
      word = r.word ∙ ap counted (let e : total count_in s.views ≡ total count_in new = omega arith in e);
      shares = omega arith;
      spent = λ j u h z. ⊎_elim (λ l. sym (ap count_in l.1)) (λ k. ⊎_elim (λ l. absurd (let m = ap share_in l.1 in omega arith)) (λ l. r.spent j u l.1 z) (at_set s.views id j b u k.1)) (at_set half other j spent_view u h);
    }
