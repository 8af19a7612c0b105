-- One transformation of a chain, and then the rest.
use Rattle.std.proofs.Common.{◌≡◌, ℕ, ◌+◌, ◌<◌, ◌≤◌, List, ◌∷◌, length, get_or, drop, refl, sym, ap, ◌∙◌, add-one, drop-cons}
use Rattle.std.proofs.lemmas.List.{drop_all}
use Rattle.sec_ast.specs.declared.transform.Transform.{Transform}
use Rattle.sec_transforms.specs.Apply.{transformed, chained}

pub chain_turn : (xs : List Transform) (i : ℕ) (d : Transform) (held new whole : List ℕ) → i < length xs → chained (drop i xs) held ≡ whole → new ≡ transformed (get_or xs i d) held → chained (drop (i + 1) xs) new ≡ whole
unfolding chained
chain_turn xs i d held new whole below left is =
    let e : drop i xs ≡ get_or xs i d ∷ drop (i + 1) xs = rw (add-one, drop-cons xs i d) refl in
    ap (chained (drop (i + 1) xs)) is ∙ ap (λ (l : List Transform). chained l held) (sym e) ∙ left

pub chain_end : (xs : List Transform) (i : ℕ) (held whole : List ℕ) → length xs ≤ i → chained (drop i xs) held ≡ whole → held ≡ whole
unfolding chained
chain_end xs i held whole past left = ap (λ (l : List Transform). chained l held) (sym (drop_all i xs past)) ∙ left
