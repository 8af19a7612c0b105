-- The state of one shard of the table of transactions, and what is told of its rows.
use Rattle.std.specs.Prelude.{◌≡◌, ℕ, Bool, true, false, cond, not, nat_eq, nat_lt, nat_le, bytes_eq, slice_get, List, Option, Some, None}
use Rattle.std.specs.List.{list_any}
use Rattle.hall_core.specs.declared.Key.{Key}
use Rattle.hall_core.specs.declared.row.Stage.{Stage}
use Rattle.hall_core.specs.declared.row.Stage.TheVariants.{Running, Parked}
use Rattle.hall_core.specs.declared.row.Row.{Row}

-- the rows stand in the order in which they entered
pub record State (P : Type 0) : Type 0 where
  pub shard : ℕ
  pub capacity : ℕ
  pub given : ℕ
  pub rows : List (Row P)

-- no ticket has a greater number
abbrev pub last_ticket : ℕ
last_ticket = 18446744073709551615

abbrev pub same_key : Key → Key → Bool
same_key a b = cond (bytes_eq a.app b.app) (bytes_eq a.id b.id) false

-- a deadline with the number of its ticket: the lesser deadline comes first, and of two alike the lesser number
abbrev pub is_before : ℕ × ℕ → ℕ × ℕ → Bool
is_before a b = cond (nat_lt a.0 b.0) true (cond (nat_eq a.0 b.0) (nat_lt a.1 b.1) false)

-- what is due as the second comes before the first
abbrev pub goes_before : ℕ × ℕ → Option (ℕ × ℕ) → Bool
goes_before place None = false
goes_before place (Some other) = is_before other place

module _ {P : Type 0} where
  abbrev pub is_running : Stage P → Bool
  is_running Running = true
  is_running (Parked deadline value) = false

  abbrev pub has_key : Key → Row P → Bool
  has_key key row = same_key row.key key

  -- it has this ticket, and is running
  abbrev pub runs : ℕ → Row P → Bool
  runs n row = cond (is_running row.stage) (nat_eq row.number n) false

  -- it has this key, and is parked
  abbrev pub waits : Key → Row P → Bool
  waits key row = cond (is_running row.stage) false (has_key key row)

  abbrev pub due_as : ℕ → ℕ → Stage P → Option (ℕ × ℕ)
  due_as now n Running = None
  due_as now n (Parked deadline value) = cond (nat_le deadline now) (Some (deadline, n)) None

  -- its deadline and number, where it is parked and the deadline has come
  abbrev pub due : ℕ → Row P → Option (ℕ × ℕ)
  due now row = due_as now row.number row.stage

  abbrev pub is_first_of : List (Row P) → ℕ → Option (ℕ × ℕ) → Bool
  is_first_of rows now None = false
  is_first_of rows now (Some place) = not (list_any (λ other. goes_before place (due now other)) rows)

  -- it is due, and none of these rows is due before it
  abbrev pub is_next : ℕ → List (Row P) → Row P → Bool
  is_next now rows row = is_first_of rows now (due now row)

  -- the same row, now parked
  abbrev pub parked : ℕ → P → Row P → Row P
  parked deadline value row = record { key = row.key; number = row.number; stage = Parked deadline value }

  -- none of these rows is due
  abbrev pub IsQuiet : List (Row P) → ℕ → Type 0
  IsQuiet rows now = (i : ℕ) (row : Row P) → slice_get rows i ≡ Some row → due now row ≡ None
