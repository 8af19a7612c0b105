-- What each member of a crew did at its door.
use Rattle.std.specs.Prelude.{ℕ, ◌+◌, List, [], ◌∷◌}

-- the k-th member, whose number is the k-th from this one on, did this at the k-th door: the doors before and after, and
-- the members before and after
abbrev pub Each : {D M : Type 0} → (ℕ → D → D → M → M → Type 0) → ℕ → List D → List D → List M → List M → Type 0
Each did number [] [] [] [] = Unit {0}
Each did number (d ∷ ds) (e ∷ es) (m ∷ ms) (n ∷ ns) = did number d e m n × Each did (number + 1) ds es ms ns
Each did number ds es ms ns = ⊥
