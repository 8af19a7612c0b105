-- Steps of the loop over a quoted text.
use Rattle.std.proofs.Common.{◌≡◌, ℕ, List, [], ◌∷◌, ◌++◌, Option, Some, None, ◌<◌, drop, length, length-drop, arith, add-one, subst, sym, refl, ap, ◌∙◌, append_assoc, Bool, true, false, eqb, cond}
use Rattle.std.specs.Prelude.{IfSome, ◌&&◌}
use Rattle.std.specs.Option.{option_map}
use Rattle.std.proofs.lemmas.List.{append-nil}
use Rattle.sec_text.specs.Quotes.{behind, quoted, quoted_byte, begins}

-- the text so far, before what is still read
abbrev pub onto : List ℕ → Option (List ℕ × List ℕ) → Option (List ℕ × List ℕ)
onto text read = option_map (λ x. (text ++ x.0, x.1)) read

pub onto-behind : (text : List ℕ) (b : ℕ) (read : Option (List ℕ × List ℕ)) → onto text (behind b read) ≡ onto (text ++ b ∷ []) read
onto-behind text b None = refl
onto-behind text b (Some x) = ap (λ (t : List ℕ). Some (t, x.1)) (simp append_assoc)

-- a quoted text begins with its first byte
abbrev pub from_byte : ℕ → Option (Option ℕ × List ℕ) → Option (List ℕ × List ℕ)
from_byte quote None = None
from_byte quote (Some (None, rest)) = Some ([], rest)
from_byte quote (Some (Some b, rest)) = behind b (quoted quote rest)

one_left : (quote a : ℕ) (p q : Bool) → cond p (Some ([], [])) None ≡ from_byte quote (cond p (Some (None, [])) (cond (q && false) (Some (Some quote, drop 1 [])) (Some (Some a, []))))
one_left quote a true q = refl
one_left quote a false true = refl
one_left quote a false false = refl

two_left : (quote a b : ℕ) (rest : List ℕ) (p q r : Bool)
    → cond p (Some ([], b ∷ rest)) (cond (q && r) (behind quote (quoted quote rest)) (behind a (quoted quote (b ∷ rest))))
    ≡ from_byte quote (cond p (Some (None, b ∷ rest)) (cond (q && r) (Some (Some quote, drop 1 (b ∷ rest))) (Some (Some a, b ∷ rest))))
two_left quote a b rest true q r = refl
two_left quote a b rest false true true = refl
two_left quote a b rest false true false = refl
two_left quote a b rest false false r = refl

shorter : (p q : Bool) (quote a : ℕ) (rest : List ℕ) (x : Option ℕ × List ℕ)
    → cond p (Some (None, rest)) (cond q (Some (Some quote, drop 1 rest)) (Some (Some a, rest))) ≡ Some x → length x.1 < length (a ∷ rest)
shorter true q quote a rest x e = subst (λ (o : Option (Option ℕ × List ℕ)). IfSome o (λ x. length x.1 < length (a ∷ rest))) e (omega (arith, add-one (length rest)))
shorter false true quote a rest x e = subst (λ (o : Option (Option ℕ × List ℕ)). IfSome o (λ x. length x.1 < length (a ∷ rest))) e (omega (arith, length-drop 1 rest))
shorter false false quote a rest x e = subst (λ (o : Option (Option ℕ × List ℕ)). IfSome o (λ x. length x.1 < length (a ∷ rest))) e (omega arith)

pub quoted_step : (quote : ℕ) (bytes : List ℕ) → quoted quote bytes ≡ from_byte quote (quoted_byte quote bytes)
quoted_step quote [] = refl
quoted_step quote (a ∷ []) = one_left quote a (eqb a quote) (eqb a 92)
quoted_step quote (a ∷ b ∷ rest) = two_left quote a b rest (eqb a quote) (eqb a 92) (eqb b quote)

-- the step of the loop, and its exits
pub onto-step : (quote : ℕ) (text rest after : List ℕ) (b : ℕ) → quoted_byte quote rest ≡ Some (Some b, after)
    → onto (text ++ b ∷ []) (quoted quote after) ≡ onto text (quoted quote rest)
onto-step quote text rest after b step = sym (ap (onto text) (quoted_step quote rest ∙ ap (from_byte quote) step) ∙ onto-behind text b (quoted quote after))

pub onto-closed : (quote : ℕ) (text rest after : List ℕ) → quoted_byte quote rest ≡ Some (None, after) → onto text (quoted quote rest) ≡ Some (text, after)
onto-closed quote text rest after step = ap (onto text) (quoted_step quote rest ∙ ap (from_byte quote) step) ∙ ap (λ (t : List ℕ). Some (t, after)) (append-nil text)

pub onto-open : (quote : ℕ) (text rest : List ℕ) → quoted_byte quote rest ≡ None → onto text (quoted quote rest) ≡ None
onto-open quote text rest step = ap (onto text) (quoted_step quote rest ∙ ap (from_byte quote) step)

-- a byte of the text takes at least one byte
pub quoted_byte-shorter : (quote : ℕ) (bytes : List ℕ) (x : Option ℕ × List ℕ) → quoted_byte quote bytes ≡ Some x → length x.1 < length bytes
quoted_byte-shorter quote [] x e = absurd cc
quoted_byte-shorter quote (a ∷ rest) x e = shorter (eqb a quote) ((eqb a 92) && begins quote rest) quote a rest x e
