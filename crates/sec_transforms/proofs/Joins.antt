-- Joined pieces, and pieces that are read one by one.
use Rattle.std.proofs.Common.{◌≡◌, ℕ, ◌+◌, ◌<◌, ◌≤◌, List, [], ◌∷◌, ◌++◌, length, get_or, drop, map, refl, sym, ap, ◌∙◌, append-nil, append_assoc, add-one, drop-cons, Bool, cond}
use Rattle.std.specs.Borrow.{Bor}
use Rattle.std.specs.List.{fold, join_with_byte}
use Rattle.std.proofs.lemmas.List.{drop_all}
use Rattle.sec_transforms.specs.NormalizePath.{Left, is_rooted, left_of, tail_of, path}

-- pieces, each behind a slash
unfoldable pub tails : List (List ℕ) → List ℕ
tails [] = []
tails (p ∷ rest) = 47 ∷ (p ++ tails rest)

pub joined : (p : List ℕ) (rest : List (List ℕ)) → join_with_byte 47 (p ∷ rest) ≡ p ++ tails rest
unfolding tails
joined p [] = sym (append-nil p)
joined p (q ∷ rest) = ap (λ (l : List ℕ). p ++ (47 ∷ l)) (joined q rest)

abbrev pub texts : List (Bor (List ℕ)) → List (List ℕ)
texts xs = map (λ p. p.now) xs

pub taken : (xs : List (Bor (List ℕ))) (i : ℕ) (d : Bor (List ℕ)) → i < length xs → texts (drop i xs) ≡ (get_or xs i d).now ∷ texts (drop (i + 1) xs)
taken xs i d below = let e : drop i xs ≡ get_or xs i d ∷ drop (i + 1) xs = rw (add-one, drop-cons xs i d) refl in ap texts e

pub begun : (out new : List ℕ) (p : Bor (List ℕ)) (xs left : List (Bor (List ℕ))) → left ≡ p ∷ xs → new ≡ out ++ p.now → new ++ tails (texts xs) ≡ out ++ join_with_byte 47 (texts left)
begun out new p xs left left_is is =
    rw (is, append_assoc, left_is) (ap (λ (l : List ℕ). out ++ l) (sym (joined p.now (texts xs))))

pub join_turn : (out slash new whole : List ℕ) (xs : List (Bor (List ℕ))) (i : ℕ) (d : Bor (List ℕ)) → i < length xs → out ++ tails (texts (drop i xs)) ≡ whole → slash ≡ out ++ 47 ∷ [] → new ≡ slash ++ (get_or xs i d).now → new ++ tails (texts (drop (i + 1) xs)) ≡ whole
unfolding tails
join_turn out slash new whole xs i d below left slash_is is =
    let step : out ++ tails ((get_or xs i d).now ∷ texts (drop (i + 1) xs)) ≡ whole = ap (λ (l : List (List ℕ)). out ++ tails l) (sym (taken xs i d below)) ∙ left in
    rw (is, slash_is, append_assoc, append_assoc) step

pub join_end : (out whole : List ℕ) (xs : List (Bor (List ℕ))) (i : ℕ) → length xs ≤ i → out ++ tails (texts (drop i xs)) ≡ whole → out ≡ whole
unfolding tails
join_end out whole xs i past left =
    sym (append-nil out) ∙ ap (λ (l : List (Bor (List ℕ))). out ++ tails (texts l)) (sym (drop_all i xs past)) ∙ left

pub fold_turn : {S : Type 0} → (f : S → List ℕ → S) (s t whole : S) (xs : List (Bor (List ℕ))) (i : ℕ) (d : Bor (List ℕ)) → i < length xs → fold f s (texts (drop i xs)) ≡ whole → f s (get_or xs i d).now ≡ t → fold f t (texts (drop (i + 1) xs)) ≡ whole
fold_turn {S} f s t whole xs i d below left step =
    ap (λ (u : S). fold f u (texts (drop (i + 1) xs))) (sym step) ∙ ap (λ (l : List (List ℕ)). fold f s l) (sym (taken xs i d below)) ∙ left

pub fold_end : {S : Type 0} → (f : S → List ℕ → S) (s whole : S) (xs : List (Bor (List ℕ))) (i : ℕ) → length xs ≤ i → fold f s (texts (drop i xs)) ≡ whole → s ≡ whole
fold_end {S} f s whole xs i past left =
    ap (λ (l : List (Bor (List ℕ))). fold f s (texts l)) (sym (drop_all i xs past)) ∙ left

-- what is written of the pieces that are left is the path
pub path_is : (value out : List ℕ) (rooted dropped : Bool) (kept : List (List ℕ)) → rooted ≡ is_rooted value → (kept, dropped) ≡ left_of value → out ≡ cond rooted (47 ∷ []) [] ++ (join_with_byte 47 kept ++ tail_of (kept, dropped)) → out ≡ path value
path_is value out rooted dropped kept root left is =
    is ∙ ap (λ (r : Bool). cond r (47 ∷ []) [] ++ (join_with_byte 47 kept ++ tail_of (kept, dropped))) root
    ∙ ap (λ (s : Left). cond (is_rooted value) (47 ∷ []) [] ++ (join_with_byte 47 s.0 ++ tail_of s)) left
