-- Histories of an object of one thread.
use Rattle.std.specs.Prelude.{◌≡◌, ℕ, ◌+◌, if◌then◌else◌, nat_lt, length, ◌⊎◌, List, [], ◌∷◌, ◌++◌}
use Rattle.turn_lock.specs.declared.history.Entry.{Entry}

-- a call with its reply
abbrev pub entry : {C R : Type 0} → C → R → Entry C R
entry c r = record { call = c; reply = r }

module _ {O C R : Type 0} (after : O → C → R → O) where
  -- the state that a history leaves
  abbrev pub left_by : O → List (Entry C R) → O
  left_by s [] = s
  left_by s (e ∷ es) = left_by (after s e.call e.reply) es

module _ {O C R : Type 0} (may : O → C → Type 0) (allows : O → C → R → Type 0) (after : O → C → R → O) where
  -- each call might be made at its point, and has a reply that the object may give there
  abbrev pub Legal : O → List (Entry C R) → Type 0
  Legal s [] = Unit {0}
  Legal s (e ∷ es) = may s e.call × allows s e.call e.reply × Legal (after s e.call e.reply) es

module _ {A : Type 0} where
  -- the first list is a prefix of the second
  abbrev pub Begins : List A → List A → Type 0
  Begins xs ys = (rest : List A) × (ys ≡ xs ++ rest)

  -- zs is xs and ys, each in its order
  abbrev pub Interleaves : List A → List A → List A → Type 0
  Interleaves xs ys [] = (xs ≡ []) × (ys ≡ [])
  Interleaves xs ys (z ∷ zs) = ((rest : List A) × (xs ≡ z ∷ rest) × Interleaves rest ys zs)
      ⊎ ((rest : List A) × (ys ≡ z ∷ rest) × Interleaves xs rest zs)

  -- the longer of two lists
  abbrev pub longer : List A → List A → List A
  longer xs ys = if nat_lt (length xs) (length ys) then ys else xs

  -- the sum of f over a list
  abbrev pub total : (A → ℕ) → List A → ℕ
  total f [] = 0
  total f (x ∷ xs) = f x + total f xs
