-- The CR at the end of a line.
use Rattle.std.proofs.Common.{◌≡◌, ◌≢◌, ℕ, Bool, true, false, cond, List, [], ◌∷◌, ◌++◌, sym, ap, ◌∙◌}
use Rattle.std.proofs.lemmas.Bool.{eq-eqb, ne_eqb}
use Rattle.std.specs.Bool.{◌==◌}
use Rattle.web_parts.specs.Headers.{without_return}

returned : (front : List ℕ) (b : ℕ) → (b == 13) ≡ true → without_return (front ++ b ∷ []) ≡ front
returned [] b e = ap (λ (c : Bool). cond c [] (b ∷ [])) e
returned (a ∷ []) b e = ap (λ (l : List ℕ). a ∷ l) (returned [] b e)
returned (a ∷ c ∷ front) b e = ap (λ (l : List ℕ). a ∷ l) (returned (c ∷ front) b e)

kept : (front : List ℕ) (b : ℕ) → (b == 13) ≡ false → without_return (front ++ b ∷ []) ≡ front ++ b ∷ []
kept [] b e = ap (λ (c : Bool). cond c [] (b ∷ [])) e
kept (a ∷ []) b e = ap (λ (l : List ℕ). a ∷ l) (kept [] b e)
kept (a ∷ c ∷ front) b e = ap (λ (l : List ℕ). a ∷ l) (kept (c ∷ front) b e)

pub return_dropped : (b : ℕ) (line front : List ℕ) → line ≡ front ++ b ∷ [] → b ≡ 13 → front ≡ without_return line
return_dropped b line front is e = sym (returned front b (eq-eqb b 13 e)) ∙ ap without_return (sym is)

pub return_kept : (b : ℕ) (line front : List ℕ) → line ≡ front ++ b ∷ [] → b ≢ 13 → line ≡ without_return line
return_kept b line front is e = is ∙ sym (kept front b (ne_eqb b 13 e)) ∙ ap without_return (sym is)
