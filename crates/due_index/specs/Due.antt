-- What the places of a table hold, and what is due first.
use Rattle.std.specs.Prelude.{◌≡◌, ℕ, Bool, false, cond, nat_eq, nat_lt, List, Option, Some, None, slice_index_or}

-- a place may hold a deadline and its ticket
abbrev pub Held : Type 0
Held = List (Option (ℕ × ℕ))

-- a deadline, its ticket and its place
abbrev pub Due : Type 0
Due = ℕ × ℕ × ℕ

-- nothing is held where there is no place
abbrev pub held_at : Held → ℕ → Option (ℕ × ℕ)
held_at held place = slice_index_or held place None

abbrev pub Holds : Held → Due → Type 0
Holds held due = held_at held due.2 ≡ Some (due.0, due.1)

-- the lesser deadline comes first, of two alike the lesser ticket, and where both are alike the lesser place
abbrev pub is_before : Due → Due → Bool
is_before a b = cond (nat_eq a.0 b.0) (cond (nat_eq a.1 b.1) (nat_lt a.2 b.2) (nat_lt a.1 b.1)) (nat_lt a.0 b.0)

-- it is held, and nothing that is held comes before it; or nothing is held
abbrev pub IsLeast : Held → Option Due → Type 0
IsLeast held (Some due) = Holds held due × ((other : Due) → Holds held other → is_before other due ≡ false)
IsLeast held None = (place : ℕ) → held_at held place ≡ None

-- there is one least entry, or none
abbrev pub LeastIsOne : Type 0
LeastIsOne = (held : Held) (a b : Option Due) → IsLeast held a → IsLeast held b → a ≡ b
