-- Shards that are counted one after the other.
use Rattle.std.proofs.Common.{◌≡◌, ℕ, ◌+◌, List, [], ◌∷◌, ◌++◌, length, min, refl, sym, ◌∙◌, ap, subst, arith}
use Rattle.turn_lock.specs.History.{entry, total}
use Rattle.hall_core.specs.declared.Counts.{Counts}
use Rattle.hall_core.specs.declared.calls.Call.TheVariants as calls
use Rattle.hall_core.specs.declared.calls.Reply.TheVariants as replies
use Rattle.conn_worker.specs.Entries.{Adds, HallEntry}
use Rattle.control.specs.Turns.{Counted, last_count, parked, running}

-- one shard more
pub counted_more : (first : ℕ) (counts : List Counts) (c : Counts) (a b d : List (List HallEntry)) (shard : ℕ) → shard ≡ first + length counts → Counted first counts a b
    → Adds shard (entry calls.Count (replies.OfCount c) ∷ []) b d → Counted first (counts ++ c ∷ []) a d
counted_more first [] c a b d shard is same adds =
    let here : shard ≡ first = omega (arith, is) in (
      d,
      subst (λ (l : List (List HallEntry)). Adds first (entry calls.Count (replies.OfCount c) ∷ []) l d) same
          (subst (λ (k : ℕ). Adds k (entry calls.Count (replies.OfCount c) ∷ []) b d) here adds),
      refl,
    )
counted_more first (x ∷ counts) c a b d shard is made adds =
    let next : shard ≡ (first + 1) + length counts = omega (arith, is) in
    (made.0, made.1, counted_more (first + 1) counts c made.0 b d shard next made.2 adds)

total_more : (f : Counts → ℕ) (counts : List Counts) (c : Counts) → total f (counts ++ c ∷ []) ≡ total f counts + f c
total_more f [] c = omega arith
total_more f (x ∷ counts) c = let h = total_more f counts c in omega arith

-- a sum that stands still at its end
pub sum_more : (f : Counts → ℕ) (counts : List Counts) (c : Counts) (old new : ℕ) → old ≡ min (total f counts) last_count → new ≡ min (old + f c) last_count
    → new ≡ min (total f (counts ++ c ∷ [])) last_count
sum_more f counts c old new before now = let more = total_more f counts c in omega (arith, before, now, more)
