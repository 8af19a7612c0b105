-- How a pass of all shards is split, and how two are joined.
use Rattle.std.specs.Prelude.{◌≡◌, ℕ, ◌+◌, ◌<◌, ◌⊎◌, [], slice_get, Some}
use Rattle.turn_lock.specs.Lock.{Joins, marks_of, opened_with, seen_of, share_of}
use Rattle.hall_core.specs.declared.calls.Ticket.{Ticket}
use Rattle.hall_core.specs.Step.{may, allows, after}
use Rattle.hall.specs.Passes.{Lock, Seat, SharedHall, HallPass, locks_of, passes_of, Holds}

module _ {P : Type 0} where
  -- at each shard this holds of its lock and of the passes of three passes of all
  abbrev pub AtEach : (Lock P → Seat P → Seat P → Seat P → Type 0) → SharedHall P → HallPass P → HallPass P → HallPass P
      → Type 0
  AtEach F h p q r = (s : ℕ) (l : Lock P) (a b c : Seat P) → slice_get (locks_of h) s ≡ Some l
      → slice_get (passes_of p) s ≡ Some a → slice_get (passes_of q) s ≡ Some b → slice_get (passes_of r) s ≡ Some c
      → F l a b c

  -- the pass a was split: b is what it is now, and c is new, has seen the same and has made no call
  pub record IsSplit (l : Lock P) (a b c : Seat P) : Type 0 where
    pub seen : seen_of b ≡ seen_of a
    pub marks : marks_of b ≡ marks_of a
    pub share : share_of b + 1 ≡ share_of a
    pub new_seen : seen_of c ≡ seen_of a
    pub new_marks : marks_of c ≡ []
    pub new_share : share_of c ≡ 1

  -- the pass a took in o, and is b now
  abbrev pub IsJoined : Lock P → Seat P → Seat P → Seat P → Type 0
  IsJoined l a o b = Joins may allows after (opened_with l) a o b

  -- each shard's pass has a share to give
  abbrev pub MaySplit : HallPass P → Type 0
  MaySplit p = (s : ℕ) (a : Seat P) → slice_get (passes_of p) s ≡ Some a → 1 < share_of a

  -- the tickets that p held, q holds
  abbrev pub HoldsAll : HallPass P → HallPass P → Type 0
  HoldsAll p q = (t : Ticket) → Holds p t → Holds q t

  -- the tickets that p or o held, q holds
  abbrev pub HoldsOf : HallPass P → HallPass P → HallPass P → Type 0
  HoldsOf p o q = (t : Ticket) → Holds p t ⊎ Holds o t → Holds q t
