-- What is kept of a line says what the line asks for.
use Rattle.std.proofs.Common.{◌≡◌, ◌≢◌, ℕ, true, List, [], ◌∷◌, ◌++◌, length, take, refl, sym, ◌∙◌, ap, subst, inr}
use Rattle.console.specs.declared.next.Asked as asking
use Rattle.console.specs.declared.next.Asked.TheVariants as asked
use Rattle.console.specs.Orders.{Around, Asks, IsLine, Takes, order_of}

pub order_kept : (line : List ℕ) → order_of (take 8 line) ≡ order_of line
order_kept [] = refl
order_kept (a ∷ []) = refl
order_kept (a ∷ b ∷ []) = refl
order_kept (a ∷ b ∷ c ∷ []) = refl
order_kept (a ∷ b ∷ c ∷ d ∷ []) = refl
order_kept (a ∷ b ∷ c ∷ d ∷ e ∷ []) = refl
order_kept (a ∷ b ∷ c ∷ d ∷ e ∷ f ∷ []) = refl
order_kept (a ∷ b ∷ c ∷ d ∷ e ∷ f ∷ g ∷ []) = refl
order_kept (a ∷ b ∷ c ∷ d ∷ e ∷ f ∷ g ∷ h ∷ []) = refl
order_kept (a ∷ b ∷ c ∷ d ∷ e ∷ f ∷ g ∷ h ∷ i ∷ line) = refl

pub kept_more : (line : List ℕ) (c : ℕ) → take 8 (take 8 line ++ c ∷ []) ≡ take 8 (line ++ c ∷ [])
kept_more [] z = refl
kept_more (a ∷ []) z = refl
kept_more (a ∷ b ∷ []) z = refl
kept_more (a ∷ b ∷ c ∷ []) z = refl
kept_more (a ∷ b ∷ c ∷ d ∷ []) z = refl
kept_more (a ∷ b ∷ c ∷ d ∷ e ∷ []) z = refl
kept_more (a ∷ b ∷ c ∷ d ∷ e ∷ f ∷ []) z = refl
kept_more (a ∷ b ∷ c ∷ d ∷ e ∷ f ∷ g ∷ []) z = refl
kept_more (a ∷ b ∷ c ∷ d ∷ e ∷ f ∷ g ∷ h ∷ []) z = refl
kept_more (a ∷ b ∷ c ∷ d ∷ e ∷ f ∷ g ∷ h ∷ i ∷ line) z = refl

-- at the end of the input: a last line, or none
pub ends_with : (line kept : List ℕ) (a b : Around) (how : asking.Asked) → kept ≡ take 8 line → IsLine line → Takes line true a b
    → (kept ≡ [] → how ≡ asked.End) → (kept ≢ [] → how ≡ asked.Order (order_of kept)) → Asks how a b
ends_with [] kept a b how is one taken none last = subst (λ (h : asking.Asked). Asks h a b) (sym (none is)) taken
ends_with (c ∷ line) kept a b how is one taken none last =
    subst (λ (h : asking.Asked). Asks h a b) (sym (last (λ e. absurd (cc (sym is ∙ e)))))
    (c ∷ line, one, ap order_of is ∙ order_kept (c ∷ line), inr (λ e. absurd (cc e), taken))
