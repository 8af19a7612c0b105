-- Marks beside a list, one for each place from the first on. A place behind the last mark is not marked.
use Rattle.std.specs.Prelude.{ℕ, zero, suc, Bool, true, false, ◌||◌, if◌then◌else◌, List, [], ◌∷◌}

-- the items at the marked places, in their order
abbrev pub selected : {A : Type 0} → List Bool → List A → List A
selected [] xs = []
selected (b ∷ bs) [] = []
selected (b ∷ bs) (x ∷ xs) = if b then x ∷ selected bs xs else selected bs xs

-- 1 where the place is marked, and else 0
abbrev pub mark_at : List Bool → ℕ → ℕ
mark_at [] p = 0
mark_at (b ∷ bs) zero = if b then 1 else 0
mark_at (b ∷ bs) (suc p) = mark_at bs p

-- the place n is marked too
abbrev pub with_mark : List Bool → ℕ → List Bool
with_mark [] zero = true ∷ []
with_mark [] (suc n) = false ∷ with_mark [] n
with_mark (b ∷ bs) zero = true ∷ bs
with_mark (b ∷ bs) (suc n) = b ∷ with_mark bs n

-- a place is marked where it was marked in one of the two
abbrev pub merged : List Bool → List Bool → List Bool
merged [] cs = cs
merged (b ∷ bs) [] = b ∷ bs
merged (b ∷ bs) (c ∷ cs) = (b || c) ∷ merged bs cs
