-- What each kind of step tells.
use Rattle.std.specs.Prelude.{◌≡◌, ◌≢◌, ℕ, ◌+◌, ◌%◌, ◌<◌, ◌≤◌, List, [], ◌∷◌, length, Option, Some, None}
use Rattle.atomic_table.specs.Table.{Me, Step}
use Rattle.turn_lock.specs.declared.history.Entry.{Entry}
use Rattle.turn_lock.specs.declared.view.Stage.TheVariants.{Waiting, Serving}
use Rattle.turn_lock.specs.declared.view.View.{View}
use Rattle.turn_lock.specs.declared.slot.Note.{Note}
use Rattle.turn_lock.specs.declared.slot.Held.{Held}
use Rattle.turn_lock.specs.History.{entry, left_by, Legal, Begins}
use Rattle.turn_lock.specs.Marks.{selected, mark_at, with_mark}
use Rattle.turn_lock.specs.View.{all_shares, ended, JoinedParts}

module _ {O C R : Type 0} where
  -- the pass has a turn, whose number modulo 2^64 was found
  abbrev pub Drawn : Step (Option (Held O C R)) → Me (Option (Held O C R)) (View O C R) → ℕ
      → Me (Option (Held O C R)) (View O C R) → Type 0
  Drawn st m n m' = (m'.1 ≡ m.1)
      × ((t : ℕ) × (n ≡ t % 18446744073709551616) × (m'.0 ≡ record m.0 { stage = Waiting t }))

  -- the pass knows what it knew
  abbrev pub Stayed : Step (Option (Held O C R)) → Me (Option (Held O C R)) (View O C R) → ℕ
      → Me (Option (Held O C R)) (View O C R) → Type 0
  Stayed st m n m' = m' ≡ m

module _ {O C R : Type 0} (may : O → C → Type 0) (allows : O → C → R → Type 0) (after : O → C → R → O) where
  module _ (fits : List (Entry C R) → C → Type 0) where
    -- the pass has the slot and has seen the whole history, and each call that fits its list may be made
    abbrev pub HasCome : View O C R → Me (Option (Held O C R)) (View O C R) → Type 0
    HasCome v m' =
        (x : Held O C R) × (log : List (Entry C R))
        × (m'.1 ≡ (0, Some x) ∷ [])
        × (m'.0 ≡ record v { stage = Serving; seen = log })
        × ((s : O) → v.start ≡ Some s → (x.object ≡ left_by after s log) × Legal may allows after s log)
        × Begins v.seen log
        × ((c : C) → fits (selected v.own v.seen) c → may x.object c)
        × (selected v.own log ≡ selected v.own v.seen)
        × (length v.own ≤ length log)

    -- the turn has come where its number was found, and else nothing changed
    abbrev pub Looked : Step (Option (Held O C R)) → Me (Option (Held O C R)) (View O C R) → ℕ
        → Me (Option (Held O C R)) (View O C R) → Type 0
    Looked st m n m' = (t : ℕ) → m.0.stage ≡ Waiting t
        → (n ≡ t % 18446744073709551616 → HasCome m.0 m') × (n ≢ t % 18446744073709551616 → m' ≡ m)

  -- nothing changed, the last join put parts of one history together, and what was seen is legal. With all shares
  -- each call seen is the pass's own
  abbrev pub Confirmed : Step (Option (Held O C R)) → Me (Option (Held O C R)) (View O C R) → ℕ
      → Me (Option (Held O C R)) (View O C R) → Type 0
  Confirmed st m n m' = (m' ≡ m) × JoinedParts m.0
      × ((s : O) → m.0.start ≡ Some s → Legal may allows after s m.0.seen)
      × (m.0.share ≡ all_shares → (p : ℕ) → p < length m.0.seen → mark_at m.0.own p ≡ 1)

-- the call and the reply of a note
abbrev pub noted : {C R : Type 0} → Note C R → Entry C R
noted z = entry z.call.value z.reply.value

-- the same, where there is a note
abbrev pub noted_in : {C R : Type 0} → Option (Note C R) → Option (Entry C R)
noted_in None = None
noted_in (Some z) = Some (noted z)

module _ {O C R : Type 0} where
  -- what the content of a slot notes
  abbrev pub noted_with : Option (Held O C R) → Option (Entry C R)
  noted_with None = None
  noted_with (Some x) = noted_in x.last

  -- what the slot notes that was taken last
  abbrev pub noted_by : List (ℕ × Option (Held O C R)) → Option (Entry C R)
  noted_by [] = None
  noted_by (x ∷ xs) = noted_with x.1

  -- the entry that the slot notes was added and is this pass's own. With all shares each call seen is
  abbrev pub Ended : Step (Option (Held O C R)) → Me (Option (Held O C R)) (View O C R) → ℕ
      → Me (Option (Held O C R)) (View O C R) → Type 0
  Ended st m n m' = (m'.1 ≡ [])
      × ((e : Entry C R) → noted_by m.1 ≡ Some e
      → (m'.0 ≡ ended m.0 e)
      × (m.0.share ≡ all_shares → (p : ℕ) → p < length m.0.seen + 1
      → mark_at (with_mark m.0.own (length m.0.seen)) p ≡ 1))
