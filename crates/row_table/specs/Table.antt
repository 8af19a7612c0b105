-- A table: what each place holds, and the places that hold a row, in the order in which their rows entered.
use Rattle.std.specs.Prelude.{◌≡◌, ℕ, List, [], ◌∷◌, ◌++◌, Option, Some, None, remove, slice_get, slice_index_or, slice_set}

pub record Table (T : Type 0) : Type 0 where
  pub rows : List (Option T)
  pub order : List ℕ

module _ {T : Type 0} where
  -- what a place holds; nothing where there is no such place
  abbrev pub row_at : List (Option T) → ℕ → Option T
  row_at rows place = slice_index_or rows place None

  abbrev pub before : Option T → List T → List T
  before None xs = xs
  before (Some x) xs = x ∷ xs

  -- the rows at these places, in their order
  abbrev pub rows_at : List (Option T) → List ℕ → List T
  rows_at rows [] = []
  rows_at rows (p ∷ ps) = before (row_at rows p) (rows_at rows ps)

  -- all rows, in the order in which they entered
  abbrev pub listed : Table T → List T
  listed t = rows_at t.rows t.order

  -- the place of the row that stands there in the list
  abbrev pub place_at : Table T → ℕ → ℕ
  place_at t at = slice_index_or t.order at 0

  -- with a further row at this place
  abbrev pub with_entered : Table T → ℕ → T → Table T
  with_entered t place row =
      record { rows = slice_set t.rows place (Some row); order = t.order ++ place ∷ [] }

  -- without the row that stands there in the list
  abbrev pub without_row : Table T → ℕ → Table T
  without_row t at = record { rows = slice_set t.rows (place_at t at) None; order = remove t.order at }

  -- with another row in the place of that one
  abbrev pub with_row : Table T → ℕ → T → Table T
  with_row t at row = record { rows = slice_set t.rows (place_at t at) (Some row); order = t.order }

  -- the row that stands there in the list was changed so, in its place
  abbrev pub Changed : Table T → ℕ → (T → T → Type 0) → Table T → Type 0
  Changed t at changes u = (row changed : T) × (slice_get (listed t) at ≡ Some row) × changes row changed
      × (u ≡ with_row t at changed) × (listed u ≡ slice_set (listed t) at changed)
