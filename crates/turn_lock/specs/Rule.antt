-- The rule of the lock. Word 0 counts the turns drawn, word 1 those that ended, both modulo 2^64. Of further words it
-- says nothing.
use Rattle.std.specs.Prelude.{◌≡◌, ◌≢◌, ℕ, ◌+◌, ◌%◌, ◌<◌, ◌≤◌, ◌⊎◌, List, [], ◌∷◌, map, length, slice_index, Option, Some}
use mathlib.Core.Option as maybe
use lib.ListN.{get_elem?}
use Rattle.atomic_table.specs.Table.{State}
use Rattle.turn_lock.specs.declared.history.Entry.{Entry}
use Rattle.turn_lock.specs.declared.view.Stage.TheVariants.{Serving}
use Rattle.turn_lock.specs.declared.view.View.{View}
use Rattle.turn_lock.specs.declared.slot.Held.{Held}
use Rattle.turn_lock.specs.History.{left_by, Legal, Begins, total}
use Rattle.turn_lock.specs.View.{all_shares, waits, HasTurn, waiting, share_in, owns_at, own_in, JoinedParts}

module _ {O C R : Type 0} where
  -- what one view has to do with the history, while w turns are drawn and have not ended
  pub record ViewFits (start : O) (log : List (Entry C R)) (w : ℕ) (v : View O C R) : Type 0 where
    pub same : 0 < v.share → v.start ≡ Some start
    pub begins : Begins v.seen log
    pub within : length v.own ≤ length v.seen
    pub turn : (t : ℕ) → HasTurn (length log) v.stage t → (length log ≤ t) × (t < length log + w)
    pub served : v.stage ≡ Serving → v.seen ≡ log
    pub live : waits v.stage ≤ v.share
    pub spent : v.share ≡ 0 → v.own ≡ []
    pub noted : JoinedParts v

  -- each view fits
  abbrev pub EachFits : O → List (Entry C R) → ℕ → List (View O C R) → Type 0
  EachFits start log w views = (j : ℕ) (v : View O C R) → get_elem? views j ≡ maybe.some v → ViewFits start log w v

  -- no two views have one turn
  abbrev pub TurnsDiffer : ℕ → List (View O C R) → Type 0
  TurnsDiffer n views = (i j t : ℕ) (v u : View O C R) → i ≢ j → get_elem? views i ≡ maybe.some v
      → get_elem? views j ≡ maybe.some u → HasTurn n v.stage t → HasTurn n u.stage t → ⊥

  -- no pass holds the slot
  abbrev pub NoneServes : List (View O C R) → Type 0
  NoneServes views = (j : ℕ) (v : View O C R) → get_elem? views j ≡ maybe.some v → v.stage ≢ Serving

  -- the slot is at home, with the object in this state
  abbrev pub AtHome : O → List (maybe.Option (Option (Held O C R))) → Type 0
  AtHome now homes = (x : Held O C R) × (homes ≡ maybe.some (Some x) ∷ []) × (x.object ≡ now)

  -- the slot is out with a pass
  abbrev pub IsOut : List (maybe.Option (Option (Held O C R))) → List (View O C R) → Type 0
  IsOut homes views = (homes ≡ maybe.none ∷ [])
      × ((j : ℕ) × (v : View O C R) × (get_elem? views j ≡ maybe.some v) × (v.stage ≡ Serving))

  -- where no pass holds the slot, it is at home with what the history leaves
  abbrev pub SlotFits : O → List (maybe.Option (Option (Held O C R))) → List (View O C R) → Type 0
  SlotFits now homes views = (AtHome now homes × NoneServes views) ⊎ IsOut homes views

module _ {O C R : Type 0} (may : O → C → Type 0) (allows : O → C → R → Type 0) (after : O → C → R → O)
    (kept : O → List (List (Entry C R)) → Type 0) (start : O) where
  -- there is one legal history, of which each view has a front, and each of its calls is one view's own
  pub record InTurns (s : State (Option (Held O C R)) (View O C R)) : Type 0 where
    pub log : List (Entry C R)
    pub two : 2 ≤ length s.words
    pub drawn : slice_index s.words 0 ≡ (length log + total waiting s.views) % 18446744073709551616
    pub serving : slice_index s.words 1 ≡ length log % 18446744073709551616
    pub legal : Legal may allows after start log
    pub each : EachFits start log (total waiting s.views) s.views
    pub apart : TurnsDiffer (length log) s.views
    pub shares : total share_in s.views ≡ all_shares
    pub owned : (p : ℕ) → p < length log → total (owns_at p) s.views ≡ 1
    pub content : SlotFits (left_by after start log) s.homes s.views
    pub lists : kept (left_by after start log) (map (own_in log) s.views)
