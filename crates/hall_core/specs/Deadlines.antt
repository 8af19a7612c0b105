-- The deadlines of rows by place, and what the table keeps of its rows.
use Rattle.std.specs.Prelude.{ℕ, List, [], ◌∷◌, Option, Some, None}
use Rattle.hall_core.specs.declared.row.Stage.{Stage}
use Rattle.hall_core.specs.declared.row.Stage.TheVariants.{Running, Parked}
use Rattle.hall_core.specs.declared.row.Row.{Row}

-- the rows, in the order in which they entered, and for how many there is room
pub record Held (P : Type 0) : Type 0 where
  pub capacity : ℕ
  pub rows : List (Row P)

module _ {P : Type 0} where
  abbrev pub until : ℕ → Stage P → Option (ℕ × ℕ)
  until n Running = None
  until n (Parked deadline value) = Some (deadline, n)

  -- the deadline and the number of a row that is parked there
  abbrev pub deadline_of : Option (Row P) → Option (ℕ × ℕ)
  deadline_of None = None
  deadline_of (Some row) = until row.number row.stage

  abbrev pub deadlines : List (Option (Row P)) → List (Option (ℕ × ℕ))
  deadlines [] = []
  deadlines (o ∷ os) = deadline_of o ∷ deadlines os
