-- Pieces that are added one after the other.
use Rattle.std.proofs.Common.{◌-◌, length, take, drop, arith, length-drop, take-append-drop, ◌≡◌, ℕ, List, [], ◌++◌, Option, Some, None, sym, refl, ◌∙◌, ap, append_assoc}
use Rattle.std.proofs.lemmas.List.{append-nil, take_all}
use Rattle.waf_io.specs.Sink.{Adds}

pub adds_none : (held : Option (List ℕ)) → Adds held [] held
adds_none None = tt
adds_none (Some h) = (h, refl, sym (append-nil h))

pub adds_both : (before mid now : Option (List ℕ)) (xs ys : List ℕ) → Adds before xs mid → Adds mid ys now → Adds before (xs ++ ys) now
adds_both before mid None xs ys a b = tt
adds_both before None (Some h) xs ys a b = absurd (cc b.1)
adds_both before (Some m) (Some h) xs ys a b =
    let same : m ≡ b.0 = cc b.1 in
    (a.0, a.1, b.2 ∙ ap (λ (l : List ℕ). l ++ ys) (sym same ∙ a.2) ∙ append_assoc a.0 xs ys)

-- `&xs[n..]` is read as the last bytes that are left
pub split_rest : (xs : List ℕ) (n m : ℕ) → m ≡ length xs - n → take n xs ++ take m (drop n xs) ≡ xs
split_rest xs n m is = ap (λ (l : List ℕ). take n xs ++ l) (take_all m (drop n xs) (omega (arith, length-drop n xs))) ∙ take-append-drop n xs
