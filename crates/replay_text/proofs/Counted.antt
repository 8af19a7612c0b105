-- The line of the counts, part by part.
use Rattle.std.proofs.Common.{◌≡◌, ℕ, List, [], ◌∷◌, ◌++◌, append_assoc, append-nil, ap, sym, ◌∙◌, OnOk, Result, Ok, Err}
use Rattle.replay_text.specs.Results.{behind_space, line}

on_ok : {T E P Q : Type 0} (r : Result T E) → (P → Q) → OnOk r P → OnOk r Q
on_ok (Ok x) f p = f p
on_ok (Err e) f p = tt

two : (before f g rest : List ℕ) → ((before ++ f) ++ g) ++ rest ≡ before ++ (f ++ (g ++ rest))
two before f g rest = append_assoc (before ++ f) g rest ∙ append_assoc before f (g ++ rest)

four : (name f g h i end : List ℕ) → (name ++ (f ++ (g ++ (h ++ (i ++ []))))) ++ end ≡ name ++ (f ++ (g ++ (h ++ (i ++ end))))
four name f g h i end =
    append_assoc name (f ++ (g ++ (h ++ (i ++ [])))) end
    ∙ ap (λ (l : List ℕ). name ++ l) (append_assoc f (g ++ (h ++ (i ++ []))) end
    ∙ ap (λ (l : List ℕ). f ++ l) (append_assoc g (h ++ (i ++ [])) end
    ∙ ap (λ (l : List ℕ). g ++ l) (append_assoc h (i ++ []) end ∙ ap (λ (l : List ℕ). h ++ (l ++ end)) (append-nil i))))

joined : (old name f g h i a b c new : List ℕ) →
    a ≡ old ++ name → b ≡ a ++ f ++ g → c ≡ b ++ h ++ i → new ≡ c ++ 10 ∷ [] → new ≡ old ++ ((name ++ (f ++ (g ++ (h ++ (i ++ []))))) ++ 10 ∷ [])
joined old name f g h i a b c new a_is b_is c_is is =
    is ∙ ap (λ (l : List ℕ). l ++ 10 ∷ []) c_is ∙ two b h i (10 ∷ [])
    ∙ ap (λ (l : List ℕ). l ++ (h ++ (i ++ 10 ∷ []))) b_is ∙ two a f g (h ++ (i ++ 10 ∷ []))
    ∙ ap (λ (l : List ℕ). l ++ (f ++ (g ++ (h ++ (i ++ 10 ∷ []))))) a_is
    ∙ append_assoc old name (f ++ (g ++ (h ++ (i ++ 10 ∷ []))))
    ∙ ap (λ (l : List ℕ). old ++ l) (sym (four name f g h i (10 ∷ [])))

-- a name, two named numbers and a line feed
pub ended : {T E : Type 0} (r : Result T E) (old name first number second other a b c new : List ℕ) →
    a ≡ old ++ name → b ≡ a ++ behind_space first ++ behind_space number → c ≡ b ++ behind_space second ++ behind_space other → OnOk r (new ≡ c ++ 10 ∷ []) →
    OnOk r (new ≡ old ++ line name (first ∷ number ∷ second ∷ other ∷ []))
ended r old name first number second other a b c new a_is b_is c_is =
    on_ok r (joined old name (behind_space first) (behind_space number) (behind_space second) (behind_space other) a b c new a_is b_is c_is)
