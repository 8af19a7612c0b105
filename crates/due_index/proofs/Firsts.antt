-- Which of two entries comes first.
use Rattle.std.proofs.Common.{◌≡◌, Bool, true, false, cond, ◌⊎◌, Option, Some, None, refl}
use Rattle.std.proofs.Common.{sym, ap, ◌∙◌, subst, inl, inr, arith, tests}
use Rattle.due_index.specs.Due.{Held, Due, is_before, IsLeast}
use Rattle.due_index.specs.Tree.{sooner}

pub none_some : {A : Type 0} (x : A) → None ≡ Some x → ⊥
none_some x e = cc

-- there is an entry, and x does not come before it
abbrev pub NotBefore : Due → Option Due → Type 0
NotBefore x None = ⊥
NotBefore x (Some a) = is_before x a ≡ false

pub not_before_self : (x : Due) → is_before x x ≡ false
not_before_self x = grind (arith, tests)

-- b comes before a, and x does not
before_both : (a b x : Due) → is_before b a ≡ true → is_before x a ≡ false → is_before x b ≡ false
before_both a b x h k = grind (arith, tests)

-- b does not come before a, and x not before b
after_both : (a b x : Due) → is_before b a ≡ false → is_before x b ≡ false → is_before x a ≡ false
after_both a b x h k = grind (arith, tests)

pub not_before_left : (a b : Option Due) (x : Due) → NotBefore x a → NotBefore x (sooner a b)
not_before_left None b x h = absurd h
not_before_left (Some a) None x h = h
not_before_left (Some a) (Some b) x h = go (is_before b a) refl
  where
    go : (t : Bool) → is_before b a ≡ t → NotBefore x (cond (is_before b a) (Some b) (Some a))
    go true e = subst (λ t. NotBefore x (cond t (Some b) (Some a))) (sym e) (before_both a b x e h)
    go false e = subst (λ t. NotBefore x (cond t (Some b) (Some a))) (sym e) h

pub not_before_right : (a b : Option Due) (x : Due) → NotBefore x b → NotBefore x (sooner a b)
not_before_right None b x h = h
not_before_right (Some a) None x h = absurd h
not_before_right (Some a) (Some b) x h = go (is_before b a) refl
  where
    go : (t : Bool) → is_before b a ≡ t → NotBefore x (cond (is_before b a) (Some b) (Some a))
    go true e = subst (λ t. NotBefore x (cond t (Some b) (Some a))) (sym e) h
    go false e = subst (λ t. NotBefore x (cond t (Some b) (Some a))) (sym e) (after_both a b x e h)

pub sooner_one : (a b : Option Due) (x : Due) → sooner a b ≡ Some x → (a ≡ Some x) ⊎ (b ≡ Some x)
sooner_one None b x h = inr h
sooner_one (Some a) None x h = inl h
sooner_one (Some a) (Some b) x h = go (is_before b a) refl
  where
    go : (t : Bool) → is_before b a ≡ t → (Some a ≡ Some x) ⊎ (Some b ≡ Some x)
    go true e = inr (sym (ap (λ t. cond t (Some b) (Some a)) e) ∙ h)
    go false e = inl (sym (ap (λ t. cond t (Some b) (Some a)) e) ∙ h)

first_same : (a b : Due) → is_before a b ≡ false → is_before b a ≡ false → (a.0 ≡ b.0) × (a.1 ≡ b.1) × (a.2 ≡ b.2)
first_same a b h k = (grind (arith, tests), grind (arith, tests), grind (arith, tests))

none_least : (held : Held) (a : Due) → IsLeast held (Some a) → IsLeast held None → ⊥
none_least held a h k = none_some (a.0, a.1) (sym (k a.2) ∙ h.0)

pub one_least : (held : Held) (a b : Option Due) → IsLeast held a → IsLeast held b → a ≡ b
one_least held None None h k = refl
one_least held (Some a) None h k = absurd (none_least held a h k)
one_least held None (Some b) h k = absurd (none_least held b k h)
one_least held (Some a) (Some b) h k =
    let same = first_same a b (k.1 a h.0) (h.1 b k.0) in
    let e : a ≡ b = (λ i. (same.0 i, same.1 i, same.2 i)) in
    ap Some e
