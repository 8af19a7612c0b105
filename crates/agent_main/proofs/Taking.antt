-- What was taken of the input so far, and what is left.
use Rattle.std.proofs.Common.{◌≡◌, ℕ, ◌<◌, List, [], ◌++◌, length, take, drop, Option, Some, None, refl, sym, ◌∙◌, ap, subst, arith, append_assoc, take-append-drop, length-append}
use Rattle.std.proofs.lemmas.List.{append-nil}
use Rattle.std.specs.Option.{IfSome}
use Rattle.waf_io.specs.Source.{HandsOver}

-- where the bytes were told, those that were taken and those that are left are all
abbrev pub Told : Option (List ℕ) → List ℕ → Option (List ℕ) → Type 0
Told first taken now = (left : List ℕ) → first ≡ Some left → (rest : List ℕ) × (now ≡ Some rest) × (taken ++ rest ≡ left)

pub told_more : (first before after : Option (List ℕ)) (taken into : List ℕ) (n : ℕ) → Told first taken before → HandsOver n into before after → Told first (taken ++ take n into) after
told_more first before after taken into n told hands left is =
    let t = told left is in
    let h : HandsOver n into (Some t.0) after = subst (λ (x : Option (List ℕ)). HandsOver n into x after) t.1 hands in
    (drop n t.0, h.2, append_assoc taken (take n into) (drop n t.0) ∙ ap (λ (l : List ℕ). taken ++ l) (ap (λ (l : List ℕ). l ++ drop n t.0) h.1 ∙ take-append-drop n t.0) ∙ t.2)

told_all : (first now : Option (List ℕ)) (taken left : List ℕ) → Told first taken now → IfSome now (λ bytes. bytes ≡ []) → first ≡ Some left → taken ≡ left
told_all first now taken left told none is =
    let t = told left is in
    let empty : t.0 ≡ [] = subst (λ (x : Option (List ℕ)). IfSome x (λ bytes. bytes ≡ [])) t.1 none in
    sym (append-nil taken) ∙ ap (λ (l : List ℕ). taken ++ l) (sym empty) ∙ t.2

told_long : (first now : Option (List ℕ)) (taken left : List ℕ) (most : ℕ) → Told first taken now → most < length taken → first ≡ Some left → most < length left
told_long first now taken left most told long is = let t = told left is in omega (arith, ap length t.2, length-append taken t.0)

each : (o : Option (List ℕ)) (P : List ℕ → Type 0) → ((a : List ℕ) → o ≡ Some a → P a) → IfSome o P
each None P h = tt
each (Some a) P h = h a refl

-- at the end all were taken
pub took_all : (first now : Option (List ℕ)) (taken : List ℕ) → Told first taken now → IfSome now (λ bytes. bytes ≡ []) → IfSome first (λ left. taken ≡ left)
took_all first now taken told none = each first (λ left. taken ≡ left) (λ left is. told_all first now taken left told none is)

-- past the limit there are more
pub took_many : (first now : Option (List ℕ)) (taken : List ℕ) (most : ℕ) → Told first taken now → most < length taken → IfSome first (λ left. most < length left)
took_many first now taken most told long = each first (λ left. most < length left) (λ left is. told_long first now taken left most told long is)
