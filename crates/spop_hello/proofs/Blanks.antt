-- What is trimmed of an item.
use Rattle.std.proofs.Common.{◌≡◌, inl, inr, ℕ, false, eqb, List, [], ◌∷◌, ◌++◌, refl, ap}
use Rattle.std.proofs.lemmas.Bool.Decides.{eqb_tells}
use Rattle.spop_hello.specs.Items.{before, without_end}

pub end_more : (front : List ℕ) (x : ℕ) → x ≡ 32 → without_end (front ++ x ∷ []) ≡ without_end front
end_more [] x is = rw is refl
end_more (b ∷ front) x is = ap (before b) (end_more front x is)

not_blank : (x : ℕ) → (x ≡ 32 → ⊥) → eqb x 32 ≡ false
not_blank x ne = elim (eqb_tells x 32) [ inl yes_ ↦ absurd (ne yes_.1) | inr no_ ↦ no_.0 ]

pub end_here : (front : List ℕ) (x : ℕ) → (x ≡ 32 → ⊥) → without_end (front ++ x ∷ []) ≡ front ++ x ∷ []
end_here [] x ne = rw (not_blank x ne) refl
end_here (b ∷ []) x ne = ap (before b) (end_here [] x ne)
end_here (b ∷ c ∷ front) x ne = ap (before b) (end_here (c ∷ front) x ne)
