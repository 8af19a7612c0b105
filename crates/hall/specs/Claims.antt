-- What is claimed, as a pass has seen it.
use Rattle.std.specs.Prelude.{◌≡◌, ℕ, ◌≤◌, List, [], ◌∷◌, ◌++◌, slice_get, Some}
use Rattle.turn_lock.specs.declared.history.Entry.{Entry}
use Rattle.turn_lock.specs.History as history
use Rattle.turn_lock.specs.Lock.{seen_of}
use Rattle.hall_core.specs.declared.calls.Claim.{Claim}
use Rattle.hall_core.specs.declared.calls.Claim.TheVariants.{Resumed, NotParked}
use Rattle.hall_core.specs.declared.calls.Expiry.{Expiry}
use Rattle.hall_core.specs.declared.calls.Expiry.TheVariants.{Expired, NothingDue}
use Rattle.hall_core.specs.declared.calls.Call.{Call}
use Rattle.hall_core.specs.declared.calls.Reply.{Reply}
use Rattle.hall_core.specs.State.{State}
use Rattle.hall_core.specs.Step.{may, allows, after, starts}
use Rattle.hall_core.specs.Kept.{claims_in, parks_in, parks_until_in, WasParked}
use Rattle.hall_core.specs.Shared.{call_of, reply_of}
use Rattle.hall.specs.Passes.{HallPass, Seat, passes_of}

-- in every legal history a number is parked at most once, and claimed at most as often as it was parked
abbrev pub ClaimedOnce : (P : Type 0) → Type 0
ClaimedOnce P = (s : State P) (log : List (Entry (Call P) (Reply P))) (n : ℕ) → starts s
    → history.Legal may allows after s log
    → (parks_in call_of n log ≤ 1) × (claims_in reply_of n log ≤ parks_in call_of n log)

module _ {P : Type 0} where
  -- before its last entry a history parked the number once, with this value, and did not claim it
  pub record FirstClaim (seen : List (Entry (Call P) (Reply P))) (n : ℕ) (value : P) : Type 0 where
    pub log : List (Entry (Call P) (Reply P))
    pub last : Entry (Call P) (Reply P)
    pub is : seen ≡ log ++ last ∷ []
    pub once : parks_in call_of n log ≡ 1
    pub parked : WasParked call_of log n value
    pub first : claims_in reply_of n log ≡ 0

  -- the last entry that the pass has seen on the shard is the first claim of the number
  abbrev pub ClaimsFirst : ℕ → HallPass P → ℕ → P → Type 0
  ClaimsFirst shard p n value =
      (q : Seat P) → slice_get (passes_of p) shard ≡ Some q → FirstClaim (seen_of q) n value

  abbrev pub ResumesFirst : ℕ → HallPass P → Claim P → Type 0
  ResumesFirst shard p (Resumed n value) = ClaimsFirst shard p n value
  ResumesFirst shard p NotParked = Unit {0}

  abbrev pub ExpiresFirst : ℕ → HallPass P → Expiry P → Type 0
  ExpiresFirst shard p (Expired n key value) = ClaimsFirst shard p n value
  ExpiresFirst shard p NothingDue = Unit {0}

  -- where nothing is due at a moment, each number that was parked on the shard until it or before was claimed once
  abbrev pub NoneIsDue : ℕ → ℕ → HallPass P → Expiry P → Type 0
  NoneIsDue shard now p NothingDue = (q : Seat P) (n d : ℕ) → slice_get (passes_of p) shard ≡ Some q → d ≤ now
      → 1 ≤ parks_until_in call_of n d (seen_of q) → claims_in reply_of n (seen_of q) ≡ 1
  NoneIsDue shard now p (Expired n key value) = Unit {0}
