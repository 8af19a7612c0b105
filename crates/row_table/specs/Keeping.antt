-- What a table keeps.
use Rattle.std.specs.Prelude.{◌≡◌, ℕ, ◌+◌, ◌<◌, ◌≤◌, List, length, slice_get, Option, Some, None}
use Rattle.row_table.specs.Table.{row_at}

-- no number stands in the list twice
abbrev pub EachOnce : List ℕ → Type 0
EachOnce ps = (i j p : ℕ) → slice_get ps i ≡ Some p → slice_get ps j ≡ Some p → i ≡ j

-- the places in order hold a row each, those that are free none, and each place is one or the other
pub record IsTable {T : Type 0} (rows : List (Option T)) (order free : List ℕ) : Type 0 where
  pub small : length rows ≤ 4294967295
  pub count : length order + length free ≡ length rows
  pub taken : (i p : ℕ) → slice_get order i ≡ Some p → (x : T) × (row_at rows p ≡ Some x)
  pub empty : (i p : ℕ) → slice_get free i ≡ Some p → (p < length rows) × (row_at rows p ≡ None)
  pub found : (p : ℕ) (x : T) → row_at rows p ≡ Some x → (i : ℕ) × (slice_get order i ≡ Some p)
  pub order_once : EachOnce order
  pub free_once : EachOnce free
