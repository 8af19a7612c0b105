-- The first item of a list that passes a test: the list without it, and with another in its place. Where none passes,
-- both are the list itself.
use Rattle.std.specs.Prelude.{Bool, cond, List, [], ◌∷◌}

module _ {A : Type 0} where
  abbrev pub without : (A → Bool) → List A → List A
  without test [] = []
  without test (x ∷ xs) = cond (test x) xs (x ∷ without test xs)

  abbrev pub changed : (A → Bool) → (A → A) → List A → List A
  changed test change [] = []
  changed test change (x ∷ xs) = cond (test x) (change x ∷ xs) (x ∷ changed test change xs)
