-- What callers of the shared table know.
use Rattle.std.specs.Prelude.{◌≡◌, ◌≢◌, ℕ, ◌<◌, ◌≤◌, ◌⊎◌, List, [], length, slice_get, slice_set, Some}
use Rattle.turn_lock.specs.History.{Legal}
use Rattle.turn_lock.specs.Lock.{TurnLock, Pass, Extends, IsPassOf, marks_of, opened_with, own_of, seen_of, share_of}
use Rattle.turn_lock.specs.View.{all_shares}
use Rattle.hall_core.specs.declared.calls.Ticket.{Ticket}
use Rattle.hall_core.specs.declared.calls.Entry as entering
use Rattle.hall_core.specs.declared.calls.Entry.TheVariants.{Entered}
use Rattle.hall_core.specs.declared.calls.Call.{Call}
use Rattle.hall_core.specs.declared.calls.Reply.{Reply}
use Rattle.hall_core.specs.State.{State}
use Rattle.hall_core.specs.Step.{IsNew, may, allows, after}
use Rattle.hall_core.specs.Kept.{given_in, spends, spent_in}
use Rattle.hall_core.specs.Shared.{IsOpen, call_of, reply_of}
use Rattle.hall.specs.declared.shared.Shards.{Shards}
use Rattle.hall.specs.declared.shared.Seats.{Seats}

-- a shard's lock, and a pass of it
abbrev pub Lock : Type 0 → Type 0
Lock P = TurnLock (State P) (Call P) (Reply P)

abbrev pub Seat : Type 0 → Type 0
Seat P = Pass (State P) (Call P) (Reply P)

abbrev pub SharedHall : Type 0 → Type 0
SharedHall P = Shards (Lock P)

abbrev pub HallPass : Type 0 → Type 0
HallPass P = Seats (Seat P)

module _ {P : Type 0} where
  -- the shards' locks, and the passes of a pass of all
  abbrev pub locks_of : SharedHall P → List (Lock P)
  locks_of h = h.locks.items

  abbrev pub passes_of : HallPass P → List (Seat P)
  passes_of p = p.seats.items

  abbrev pub shards_of : SharedHall P → ℕ
  shards_of h = length (locks_of h)

  -- a pass of the lock of this shard, which was opened without rows. What it has seen is a legal history from there,
  -- and it has spent only what it got
  pub record IsShardPass (shard : ℕ) (l : Lock P) (q : Seat P) : Type 0 where
    pub pass : IsPassOf l q
    pub opened : IsNew shard (opened_with l).capacity (opened_with l)
    pub legal : Legal may allows after (opened_with l) (seen_of q)
    pub spent : (n : ℕ) → spent_in call_of n (own_of q) ≤ given_in reply_of n (own_of q)

  -- it has a pass for each shard's lock
  pub record IsPassOfHall (h : SharedHall P) (p : HallPass P) : Type 0 where
    pub count : length (passes_of p) ≡ shards_of h
    pub each : (s : ℕ) (l : Lock P) (q : Seat P) → slice_get (locks_of h) s ≡ Some l
        → slice_get (passes_of p) s ≡ Some q → IsShardPass s l q

  -- each pass of the table has a pass of this lock for this shard
  abbrev pub PassesOf : SharedHall P → ℕ → Lock P → Type 0
  PassesOf h shard l = (p : HallPass P) (q : Seat P) → IsPassOfHall h p → slice_get (passes_of p) shard ≡ Some q
      → IsShardPass shard l q

  -- it has seen nothing and made no call, and has all shares, and each shard has room for so many rows
  abbrev pub IsFirst : ℕ → SharedHall P → HallPass P → Type 0
  IsFirst capacity h p = (s : ℕ) (l : Lock P) (q : Seat P) → slice_get (locks_of h) s ≡ Some l
      → slice_get (passes_of p) s ≡ Some q
      → ((opened_with l).capacity ≡ capacity) × (seen_of q ≡ []) × (marks_of q ≡ []) × (share_of q ≡ all_shares)

  -- q is the pass p after this call on the shard; its passes of other shards are as before
  pub record Turned (h : SharedHall P) (shard : ℕ) (p : HallPass P) (call : Call P) (reply : Reply P) (q : HallPass P)
      : Type 0 where
    pub lock : Lock P
    pub old : Seat P
    pub new : Seat P
    pub at : slice_get (locks_of h) shard ≡ Some lock
    pub had : slice_get (passes_of p) shard ≡ Some old
    pub has : passes_of q ≡ slice_set (passes_of p) shard new
    pub extends : Extends may allows after (opened_with lock) old call reply new

  -- there is a state in which the call may have this reply
  abbrev pub Answered : Call P → Reply P → Type 0
  Answered call reply = (s : State P) × allows s call reply

  -- the pass got the ticket, and has neither parked it nor left with it
  pub record Holds (p : HallPass P) (t : Ticket) : Type 0 where
    pub shard : t.shard < length (passes_of p)
    pub is_open : (q : Seat P) → slice_get (passes_of p) t.shard ≡ Some q → IsOpen t.number (own_of q)

  -- where a row was made, the pass holds its ticket
  abbrev pub HoldsEntered : HallPass P → entering.Entry → Type 0
  HoldsEntered p (Entered t) = Holds p t
  HoldsEntered p _ = Unit {0}

  -- the pass holds what it held, but for what a call on this shard spends
  abbrev pub KeepsOthers : ℕ → Call P → HallPass P → HallPass P → Type 0
  KeepsOthers shard call p q = (t : Ticket) → Holds p t → (t.shard ≢ shard) ⊎ (spends t.number call ≡ 0) → Holds q t
