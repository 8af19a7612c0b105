-- Where the first item that passes a test stands, and rows in the order of their numbers.
use Rattle.std.specs.Prelude.{◌≡◌, ◌≢◌, ℕ, ◌<◌, ◌≤◌, Bool, true, List, slice_get, slice_set, remove, Option, Some, None}
use Rattle.std.specs.List.{find}
use Rattle.hall_core.specs.declared.row.Row.{Row}
use Rattle.hall_core.specs.Rows.{without, changed}

-- x is the first of xs that passes, and stands at i
pub record IsAt {A : Type 0} (test : A → Bool) (xs : List A) (i : ℕ) (x : A) : Type 0 where
  pub here : slice_get xs i ≡ Some x
  pub found : find test xs ≡ Some x
  pub passes : test x ≡ true
  pub left : without test xs ≡ remove xs i
  pub change : (f : A → A) → changed test f xs ≡ slice_set xs i (f x)

module _ {A : Type 0} where
  abbrev pub IsFirstAt : (A → Bool) → List A → ℕ → Type 0
  IsFirstAt test xs i = (x : A) × IsAt test xs i x

  -- the place of the first that passes, or none does
  abbrev pub IsFirst : (A → Bool) → List A → Option ℕ → Type 0
  IsFirst test xs (Some i) = IsFirstAt test xs i
  IsFirst test xs None = find test xs ≡ None

module _ {P : Type 0} where
  abbrev pub Ascending : List (Row P) → Type 0
  Ascending rows = (i j : ℕ) (a b : Row P) → slice_get rows i ≡ Some a → slice_get rows j ≡ Some b → i < j → a.number < b.number

  -- no row has a greater number
  abbrev pub UpTo : ℕ → List (Row P) → Type 0
  UpTo n rows = (i : ℕ) (row : Row P) → slice_get rows i ≡ Some row → row.number ≤ n

  -- the row with this number stands there, or there is none
  abbrev pub IsSought : List (Row P) → ℕ → Option ℕ → Type 0
  IsSought rows n (Some i) = (row : Row P) × (slice_get rows i ≡ Some row) × (row.number ≡ n)
  IsSought rows n None = (i : ℕ) (row : Row P) → slice_get rows i ≡ Some row → row.number ≢ n
