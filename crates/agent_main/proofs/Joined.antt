-- Lines one behind the other.
use Rattle.std.proofs.Common.{◌≡◌, ℕ, List, [], ◌++◌, ap, ◌∙◌}
use Rattle.agent_main.specs.Summary.{count_line}

-- a line whose count is known in another form
pub line_more : (old new name : List ℕ) (n m : ℕ) → new ≡ old ++ count_line name n → n ≡ m → new ≡ old ++ count_line name m
line_more old new name n m e is = e ∙ ap (λ k. old ++ count_line name k) is

pub six : (t₀ t₁ t₂ t₃ t₄ t₅ t₆ a b c d e f : List ℕ) → t₀ ≡ [] → t₁ ≡ t₀ ++ a → t₂ ≡ t₁ ++ b → t₃ ≡ t₂ ++ c → t₄ ≡ t₃ ++ d → t₅ ≡ t₄ ++ e → t₆ ≡ t₅ ++ f → t₆ ≡ a ++ b ++ c ++ d ++ e ++ f
six t₀ t₁ t₂ t₃ t₄ t₅ t₆ a b c d e f p₀ p₁ p₂ p₃ p₄ p₅ p₆ =
    let q₁ = p₁ ∙ ap (λ t. t ++ a) p₀ in
    let q₂ = p₂ ∙ ap (λ t. t ++ b) q₁ in
    let q₃ = p₃ ∙ ap (λ t. t ++ c) q₂ in
    let q₄ = p₄ ∙ ap (λ t. t ++ d) q₃ in
    let q₅ = p₅ ∙ ap (λ t. t ++ e) q₄ in
    let q₆ = p₆ ∙ ap (λ t. t ++ f) q₅ in
    q₆
