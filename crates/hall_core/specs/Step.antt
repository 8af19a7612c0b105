-- The step of one shard of the table: the condition of a call, the replies that it may have, and the state after it.
use Rattle.std.specs.Prelude.{◌≡◌, ◌≢◌, ℕ, ◌+◌, List, [], ◌∷◌, ◌++◌, length, Some, None, count_by, not}
use Rattle.std.specs.List.{find}
use Rattle.hall_core.specs.declared.Key.{Key}
use Rattle.hall_core.specs.declared.Counts.{Counts}
use Rattle.hall_core.specs.declared.row.Stage.TheVariants.{Running, Parked}
use Rattle.hall_core.specs.declared.row.Row.{Row}
use Rattle.hall_core.specs.declared.calls.Entry.{Entry}
use Rattle.hall_core.specs.declared.calls.Entry.TheVariants.{Entered, IdInUse, Full, Worn}
use Rattle.hall_core.specs.declared.calls.Claim.{Claim}
use Rattle.hall_core.specs.declared.calls.Claim.TheVariants.{Resumed, NotParked}
use Rattle.hall_core.specs.declared.calls.Expiry.{Expiry}
use Rattle.hall_core.specs.declared.calls.Expiry.TheVariants.{Expired, NothingDue}
use Rattle.hall_core.specs.declared.calls.Call.{Call}
use Rattle.hall_core.specs.declared.calls.Call.TheVariants.{Enter, Park, Leave, Resume, Expire, Count}
use Rattle.hall_core.specs.declared.calls.Reply.{Reply}
use Rattle.hall_core.specs.declared.calls.Reply.TheVariants.{OfEnter, OfPark, OfLeave, OfResume, OfExpire, OfCount}
use Rattle.hall_core.specs.Rows.{without, changed}
use Rattle.hall_core.specs.State.{State, last_ticket, is_running, has_key, runs, waits, is_next, parked, IsQuiet}

module _ {P : Type 0} where
  -- as it is when it is made: without rows, and without a ticket given
  pub record IsNew (shard capacity : ℕ) (s : State P) : Type 0 where
    pub shard_is : s.shard ≡ shard
    pub capacity_is : s.capacity ≡ capacity
    pub given : s.given ≡ 0
    pub rows : s.rows ≡ []

  abbrev pub starts : State P → Type 0
  starts s = IsNew s.shard s.capacity s

  -- no row has the key
  abbrev pub IsFree : State P → Key → Type 0
  IsFree s key = find (has_key key) s.rows ≡ None

  abbrev pub IsEntry : State P → Key → Entry → Type 0
  IsEntry s key (IdInUse n) = (row : Row P) × (find (has_key key) s.rows ≡ Some row) × (n ≡ row.number)
  IsEntry s key (Full n) = IsFree s key × (length s.rows ≡ s.capacity) × (n ≡ length s.rows)
  IsEntry s key (Worn n) = IsFree s key × (length s.rows ≢ s.capacity) × (s.given ≡ last_ticket) × (n ≡ last_ticket)
  IsEntry s key (Entered t) = IsFree s key × (length s.rows ≢ s.capacity) × (s.given ≢ last_ticket)
      × (t.shard ≡ s.shard) × (t.number ≡ s.given + 1)

  -- the row has this number, and this value is parked there
  pub record Holds (row : Row P) (n : ℕ) (value : P) : Type 0 where
    pub number : row.number ≡ n
    pub deadline : ℕ
    pub stage : row.stage ≡ Parked deadline value

  abbrev pub IsClaim : List (Row P) → Key → Claim P → Type 0
  IsClaim rows key (Resumed n value) = (row : Row P) × (find (waits key) rows ≡ Some row) × Holds row n value
  IsClaim rows key NotParked = find (waits key) rows ≡ None

  abbrev pub IsExpiry : List (Row P) → ℕ → Expiry P → Type 0
  IsExpiry rows now (Expired n key value) = (row : Row P) × (find (is_next now rows) rows ≡ Some row)
      × (row.key ≡ key) × Holds row n value
  IsExpiry rows now NothingDue = IsQuiet rows now

  abbrev pub IsCounts : State P → Counts → Type 0
  IsCounts s counts = (counts.running ≡ count_by (λ row. is_running row.stage) s.rows)
      × (counts.parked ≡ count_by (λ row. not (is_running row.stage)) s.rows)

  -- the row of the ticket with this number is running
  abbrev pub IsRunning : List (Row P) → ℕ → Type 0
  IsRunning rows n = (row : Row P) × (find (runs n) rows ≡ Some row)

  abbrev pub may : State P → Call P → Type 0
  may s (Park t deadline value) = IsRunning s.rows t.number
  may s (Leave t) = IsRunning s.rows t.number
  may s _ = Unit {0}

  abbrev pub allows : State P → Call P → Reply P → Type 0
  allows s (Enter key) (OfEnter entry) = IsEntry s key entry
  allows s (Park t deadline value) OfPark = Unit {0}
  allows s (Leave t) OfLeave = Unit {0}
  allows s (Resume key) (OfResume claim) = IsClaim s.rows key claim
  allows s (Expire now) (OfExpire expiry) = IsExpiry s.rows now expiry
  allows s Count (OfCount counts) = IsCounts s counts
  allows s _ _ = ⊥

  abbrev pub after : State P → Call P → Reply P → State P
  after s (Enter key) (OfEnter (Entered t)) =
      let row : Row P = record { key = key; number = s.given + 1; stage = Running } in
      record s { given = s.given + 1; rows = s.rows ++ row ∷ [] }
  after s (Park t deadline value) r = record s { rows = changed (runs t.number) (parked deadline value) s.rows }
  after s (Leave t) r = record s { rows = without (runs t.number) s.rows }
  after s (Resume key) r = record s { rows = without (waits key) s.rows }
  after s (Expire now) r = record s { rows = without (is_next now s.rows) s.rows }
  after s _ _ = s
