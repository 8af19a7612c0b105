-- How the index finds what is due first: a binary tree over the places. Of n places, the inner nodes are 1 to n - 1,
-- and node n + p is the place p. Below node i are 2 i and 2 i + 1. An inner node keeps the first of the two below it.
use Rattle.std.specs.Prelude.{◌≡◌, ◌≢◌, ℕ, ◌+◌, ◌-◌, ◌*◌, ◌<◌, ◌≤◌, cond, nat_lt, List, length, count_by, is_some}
use Rattle.std.specs.Prelude.{Option, Some, None, slice_index_or}
use Rattle.due_index.specs.Due.{Held, Due, held_at, is_before}

-- of two entries that there may be, the one that comes first
abbrev pub sooner : Option Due → Option Due → Option Due
sooner None b = b
sooner (Some a) None = Some a
sooner (Some a) (Some b) = cond (is_before b a) (Some b) (Some a)

abbrev pub placed : Option (ℕ × ℕ) → ℕ → Option Due
placed None place = None
placed (Some held) place = Some (held.0, held.1, place)

abbrev pub leaf : Held → ℕ → Option Due
leaf held place = placed (held_at held place) place

abbrev pub inner_node : List (Option Due) → ℕ → Option Due
inner_node firsts i = slice_index_or firsts i None

abbrev pub node : Held → List (Option Due) → ℕ → Option Due
node held firsts i = cond (nat_lt i (length held)) (inner_node firsts i) (leaf held (i - length held))

abbrev pub below : Held → List (Option Due) → ℕ → Option Due
below held firsts i = sooner (node held firsts (2 * i)) (node held firsts (2 * i + 1))

-- a place has a number of 32 bits
abbrev pub most_places : ℕ
most_places = 4294967295

-- there is room for each inner node
pub record Fits (held : Held) (firsts : List (Option Due)) : Type 0 where
  pub small : length held ≤ most_places
  pub same : length firsts ≡ length held

-- each inner node but this one keeps the first below it
abbrev pub IsSettledBut : Held → List (Option Due) → ℕ → Type 0
IsSettledBut held firsts but =
    (i : ℕ) → 1 ≤ i → i < length held → i ≢ but → inner_node firsts i ≡ below held firsts i

-- no inner node has the number 0
abbrev pub IsSettled : Held → List (Option Due) → Type 0
IsSettled held firsts = IsSettledBut held firsts 0

-- what the index keeps, with the number of places that hold something
abbrev pub IsIndex : Held → List (Option Due) → ℕ → Type 0
IsIndex held firsts len = Fits held firsts × IsSettled held firsts × (len ≡ count_by is_some held)
