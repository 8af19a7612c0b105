-- The places of rows in the order of their keys.
use Rattle.std.specs.Prelude.{◌≡◌, ◌≢◌, ℕ, ◌<◌, ◌≤◌, List, length, slice_get, Option, Some, None, Result, Ok, Err}
use Rattle.std.specs.Cmp.Lexicographic.{slice_cmp}
use Rattle.std.specs.Ordering.{nat_cmp, ordering_then}
use Rattle.std.specs.declared.cmp.Ordering.{Ordering}
use Rattle.std.specs.declared.cmp.Ordering.TheVariants.{Less}
use Rattle.row_table.specs.Table.{row_at}
use Rattle.hall_core.specs.declared.Key.{Key}
use Rattle.hall_core.specs.declared.row.Row.{Row}

-- by the name of the application, and where that is one by the identifier
abbrev pub key_cmp : Key → Key → Ordering
key_cmp a b = ordering_then (slice_cmp nat_cmp a.app b.app) (slice_cmp nat_cmp a.id b.id)

abbrev pub IsBefore : Key → Key → Type 0
IsBefore a b = key_cmp a b ≡ Less

module _ {P : Type 0} where
  abbrev pub key_of : Option (Row P) → Option Key
  key_of None = None
  key_of (Some row) = Some row.key

  -- the key of the row at a place
  abbrev pub key_at : List (Option (Row P)) → ℕ → Option Key
  key_at rows p = key_of (row_at rows p)

-- the places that have a key, each once, in the order of the keys; no two have one key
pub record IsByKey (key_at : ℕ → Option Key) (places : List ℕ) : Type 0 where
  pub held : (i p : ℕ) → slice_get places i ≡ Some p → (key : Key) × (key_at p ≡ Some key)
  pub found : (p : ℕ) (key : Key) → key_at p ≡ Some key → (i : ℕ) × (slice_get places i ≡ Some p)
  pub rising : (i j p q : ℕ) (a b : Key) → slice_get places i ≡ Some p → slice_get places j ≡ Some q
      → key_at p ≡ Some a → key_at q ≡ Some b → i < j → IsBefore a b

-- what stands before low has a key before this one, and what stands at high or after it one after it
pub record IsKeyCut (key_at : ℕ → Option Key) (places : List ℕ) (key : Key) (low high : ℕ) : Type 0 where
  pub within : high ≤ length places
  pub below : (i p : ℕ) (k : Key) → slice_get places i ≡ Some p → key_at p ≡ Some k → i < low → IsBefore k key
  pub above : (i p : ℕ) (k : Key) → slice_get places i ≡ Some p → key_at p ≡ Some k → high ≤ i → IsBefore key k

-- where the key stands, or where it is to be put
abbrev pub IsKeySearch : (ℕ → Option Key) → List ℕ → Key → Result ℕ ℕ → Type 0
IsKeySearch key_at places key (Ok i) = (p : ℕ) × (slice_get places i ≡ Some p) × (key_at p ≡ Some key)
IsKeySearch key_at places key (Err i) = IsKeyCut key_at places key i i

abbrev pub IsKeyFree : (ℕ → Option Key) → Key → Type 0
IsKeyFree key_at key = (p : ℕ) → key_at p ≢ Some key

-- the place that has the key, or none has it
abbrev pub IsKeyPlace : (ℕ → Option Key) → Key → Option ℕ → Type 0
IsKeyPlace key_at key (Some p) = key_at p ≡ Some key
IsKeyPlace key_at key None = IsKeyFree key_at key
