-- For the tests: a source of numbers. Its state is the next number, and a call answers it, or nothing where the
-- numbers are used up.
use Rattle.std.specs.Prelude.{◌≡◌, ℕ, ◌+◌, ◌<◌, ◌≤◌, if◌then◌else◌, nat_eq, nat_lt, List, [], ◌∷◌, Option, Some, None}
use Rattle.turn_lock.specs.declared.history.Entry.{Entry}
use Rattle.turn_lock.specs.History.{left_by, Legal}
use Rattle.turn_lock.specs.Lock.{TurnLock, Pass, IsPassOf, opened_with, own_of, seen_of}

-- where this is the next number, none is left
abbrev pub last_number : ℕ
last_number = 18446744073709551615

-- the reply is the next number, or nothing behind the last
abbrev pub Answers : ℕ → Option ℕ → Type 0
Answers next (Some n) = (n ≡ next) × (next < last_number)
Answers next None = last_number ≤ next

-- the next number after that reply
abbrev pub moved : ℕ → Option ℕ → ℕ
moved next (Some n) = next + 1
moved next None = next

-- each reply of the history is the next number at its point
abbrev pub LegalDraws : {C : Type 0} → ℕ → List (Entry C (Option ℕ)) → Type 0
LegalDraws {C} s log =
    Legal (λ (n : ℕ) (c : C). Unit {0}) (λ (n : ℕ) (c : C) (r : Option ℕ). Answers n r)
    (λ (n : ℕ) (c : C) (r : Option ℕ). moved n r) s log

-- the next number after a history
abbrev pub next_after : {C : Type 0} → ℕ → List (Entry C (Option ℕ)) → ℕ
next_after {C} s log = left_by (λ (n : ℕ) (c : C) (r : Option ℕ). moved n r) s log

-- 1 where the reply is this number
abbrev pub is_number : ℕ → Option ℕ → ℕ
is_number x None = 0
is_number x (Some n) = if nat_eq n x then 1 else 0

-- how often a list has a number
abbrev pub times : ℕ → List ℕ → ℕ
times x [] = 0
times x (n ∷ ns) = (if nat_eq n x then 1 else 0) + times x ns

-- how often a history answers a number
abbrev pub drawn : {C : Type 0} → ℕ → List (Entry C (Option ℕ)) → ℕ
drawn x [] = 0
drawn x (e ∷ es) = is_number x e.reply + drawn x es

-- 1 where the number is below n
abbrev pub once_below : ℕ → ℕ → ℕ
once_below x n = if nat_lt x n then 1 else 0

module _ {C : Type 0} where
  -- the pass has seen a legal history of the source
  abbrev pub Draws : TurnLock ℕ C (Option ℕ) → Pass ℕ C (Option ℕ) → Type 0
  Draws l p = IsPassOf l p × LegalDraws (opened_with l) (seen_of p)

  -- the list has just the numbers that were drawn through the pass
  abbrev pub HasDrawn : TurnLock ℕ C (Option ℕ) → Pass ℕ C (Option ℕ) → List ℕ → Type 0
  HasDrawn l p numbers = Draws l p × ((x : ℕ) → times x numbers ≡ drawn x (own_of p))
