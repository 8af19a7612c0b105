-- A path without the pieces that say nothing.
use Rattle.std.specs.Prelude.{ℕ, ◌-◌, Bool, true, false, not, cond, ◌&&◌, ◌==◌, List, [], ◌∷◌, ◌++◌, length, take, slice_get, Option, Some, None}
use Rattle.std.specs.List.{fold, slice_split, join_with_byte}
use Rattle.sec_transforms.specs.declared.characters.TheConstants.{DOT, SLASH}

-- an empty piece or `.`
abbrev pub is_nothing : List ℕ → Bool
is_nothing [] = true
is_nothing (a ∷ []) = a == DOT
is_nothing other = false

-- `..`
abbrev pub is_up : List ℕ → Bool
is_up (a ∷ b ∷ []) = a == DOT && b == DOT
is_up other = false

-- whether the last piece is there and is not `..`
abbrev pub is_name : Option (List ℕ) → Bool
is_name None = false
is_name (Some piece) = not (is_up piece)

abbrev pub ends_in_name : List (List ℕ) → Bool
ends_in_name left = is_name (slice_get left (length left - 1))

-- the pieces that are left, and whether the last one that was read is not among them
abbrev pub Left : Type 0
Left = List (List ℕ) × Bool

abbrev pub after : Bool → Left → List ℕ → Left
after rooted left piece =
    cond (is_nothing piece) (left.0, true)
    (cond (is_up piece && ends_in_name left.0) (take (length left.0 - 1) left.0, true)
    (cond (is_up piece && rooted) (left.0, true) (left.0 ++ piece ∷ [], false)))

abbrev pub is_rooted : List ℕ → Bool
is_rooted [] = false
is_rooted (a ∷ rest) = a == SLASH

abbrev pub left_of : List ℕ → Left
left_of value = fold (after (is_rooted value)) ([], false) (slice_split (λ b. b == SLASH) value)

abbrev pub tail_of : Left → List ℕ
tail_of ([], dropped) = []
tail_of ((p ∷ rest), dropped) = cond dropped (SLASH ∷ []) []

abbrev pub path : List ℕ → List ℕ
path value =
    cond (is_rooted value) (SLASH ∷ []) [] ++ (join_with_byte SLASH (left_of value).0 ++ tail_of (left_of value))
