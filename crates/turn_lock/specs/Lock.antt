-- The words in which the calls of a lock speak.
use Rattle.std.specs.Prelude.{◌≡◌, ℕ, ◌+◌, ◌<◌, ◌≤◌, Bool, ◌⊎◌, List, [], ◌∷◌, ◌++◌, length, Option, Some}
use Rattle.atomic_table.specs.declared.shared.Seat.{Seat}
use Rattle.turn_lock.specs.declared.history.Entry.{Entry}
use Rattle.turn_lock.specs.declared.view.Stage.TheVariants.{Idle}
use Rattle.turn_lock.specs.declared.view.View.{View}
use Rattle.turn_lock.specs.declared.slot.Held.{Held}
use Rattle.turn_lock.specs.declared.lock.Locked.{Locked}
use Rattle.turn_lock.specs.declared.rule.Turns.{Turns}
use Rattle.std.specs.declared.snapshot.Snapshot.{Snapshot}
use Rattle.turn_lock.specs.History.{entry, Legal, Begins, Interleaves, longer}
use Rattle.turn_lock.specs.Marks.{selected, mark_at, with_mark, merged}
use Rattle.turn_lock.specs.View.{all_shares}

-- a lock of an object with these states, calls and replies
abbrev pub TurnLock : Type 0 → Type 0 → Type 0 → Type 0
TurnLock O C R = Locked (Option (Held O C R)) (View O C R) (Snapshot O) (Turns O)

-- a pass of such a lock
abbrev pub Pass : Type 0 → Type 0 → Type 0 → Type 0
Pass O C R = Seat (Option (Held O C R)) (View O C R)

module _ {O C R : Type 0} where
  -- the state that the lock was opened with, from which its history starts
  abbrev pub opened_with : TurnLock O C R → O
  opened_with l = l.table.shared.key.value

  -- the front of the lock's history that the pass has seen
  abbrev pub seen_of : Pass O C R → List (Entry C R)
  seen_of p = p.me.0.seen

  -- which places of what it has seen are its own calls
  abbrev pub marks_of : Pass O C R → List Bool
  marks_of p = p.me.0.own

  -- its own calls with their replies, in their order
  abbrev pub own_of : Pass O C R → List (Entry C R)
  own_of p = selected (marks_of p) (seen_of p)

  -- its part of all shares
  abbrev pub share_of : Pass O C R → ℕ
  share_of p = p.me.0.share

  -- a pass of this lock and no other, between two calls
  abbrev pub IsPassOf : TurnLock O C R → Pass O C R → Type 0
  IsPassOf l p = (p.table_id ≡ l.table.shared.table_id) × (p.me.1 ≡ []) × (p.me.0.stage ≡ Idle)
      × (0 < share_of p) × (p.me.0.start ≡ Some (opened_with l))

  -- every call that it has seen is its own
  abbrev pub OwnsAll : Pass O C R → Type 0
  OwnsAll p = own_of p ≡ seen_of p

module _ {O C R : Type 0} (may : O → C → Type 0) (allows : O → C → R → Type 0) (after : O → C → R → O) where
  -- q is the pass p after this call: what p had seen goes on to a legal history that ends with the call, which is
  -- one more of its own
  pub record Extends (start : O) (p : Pass O C R) (call : C) (reply : R) (q : Pass O C R) : Type 0 where
    pub log : List (Entry C R)
    pub begins : Begins (seen_of p) log
    pub seen : seen_of q ≡ log ++ entry call reply ∷ []
    pub legal : Legal may allows after start (seen_of q)
    pub place : mark_at (marks_of p) (length log) ≡ 0
    pub own : marks_of q ≡ with_mark (marks_of p) (length log)
    pub listed : own_of q ≡ own_of p ++ entry call reply ∷ []
    pub share : share_of q ≡ share_of p
    pub whole : share_of q ≡ all_shares → OwnsAll q

  -- q is the pass p after it took in o: one of the two had seen what the other had, and maybe more, and no call was
  -- both's
  pub record Joins (start : O) (p o q : Pass O C R) : Type 0 where
    pub prefix : Begins (seen_of p) (seen_of o) ⊎ Begins (seen_of o) (seen_of p)
    pub seen : seen_of q ≡ longer (seen_of p) (seen_of o)
    pub legal : Legal may allows after start (seen_of q)
    pub disjoint : (place : ℕ) → mark_at (marks_of p) place + mark_at (marks_of o) place ≤ 1
    pub own : marks_of q ≡ merged (marks_of p) (marks_of o)
    pub listed : Interleaves (own_of p) (own_of o) (own_of q)
    pub share : share_of q ≡ share_of p + share_of o
    pub whole : share_of q ≡ all_shares → OwnsAll q
