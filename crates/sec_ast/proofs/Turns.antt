-- Turns of loops that write lists.
use Rattle.std.proofs.Common.{◌≡◌, ℕ, ◌+◌, ◌<◌, ◌≤◌, List, [], ◌∷◌, ◌++◌, length, get_or, map, take, drop, refl, sym, ap, ◌∙◌, append-nil, append_assoc, add-one, drop-cons}
use Rattle.std.specs.List.{flat_map, join_with_byte}
use Rattle.std.proofs.lemmas.List.{drop_all, take_more, flat_map_more}

-- one piece more
pub turn : {X A : Type 0} → (f : X → List A) (before out new : List A) (xs : List X) (i : ℕ) (d : X) → i < length xs → out ≡ before ++ flat_map f (take i xs) → new ≡ out ++ f (get_or xs i d) → new ≡ before ++ flat_map f (take (i + 1) xs)
turn f before out new xs i d below is more =
    rw (more, is, take_more xs i d below) (flat_map_more f before (take i xs) (get_or xs i d))

-- pieces, each behind the byte
unfoldable pub tails : ℕ → List (List ℕ) → List ℕ
tails c [] = []
tails c (p ∷ rest) = c ∷ (p ++ tails c rest)

pub joined : (c : ℕ) (p : List ℕ) (rest : List (List ℕ)) → join_with_byte c (p ∷ rest) ≡ p ++ tails c rest
unfolding tails
joined c p [] = sym (append-nil p)
joined c p (q ∷ rest) = ap (λ (l : List ℕ). p ++ (c ∷ l)) (joined c q rest)

pub join_turn : (c : ℕ) (out marked new whole : List ℕ) (xs : List (List ℕ)) (i : ℕ) (d : List ℕ) → i < length xs → out ++ tails c (drop i xs) ≡ whole → marked ≡ out ++ c ∷ [] → new ≡ marked ++ get_or xs i d → new ++ tails c (drop (i + 1) xs) ≡ whole
unfolding tails
join_turn c out marked new whole xs i d below left marked_is is =
    let e : drop i xs ≡ get_or xs i d ∷ drop (i + 1) xs = rw (add-one, drop-cons xs i d) refl in
    let step : out ++ tails c (get_or xs i d ∷ drop (i + 1) xs) ≡ whole = ap (λ (l : List (List ℕ)). out ++ tails c l) (sym e) ∙ left in
    rw (is, marked_is, append_assoc, append_assoc) step

pub join_end : (c : ℕ) (out whole : List ℕ) (xs : List (List ℕ)) (i : ℕ) → length xs ≤ i → out ++ tails c (drop i xs) ≡ whole → out ≡ whole
unfolding tails
join_end c out whole xs i past left =
    sym (append-nil out) ∙ ap (λ (l : List (List ℕ)). out ++ tails c l) (sym (drop_all i xs past)) ∙ left

-- one text behind the other
pub two : {A : Type 0} → (p m n a b : List A) → m ≡ p ++ a → n ≡ m ++ b → n ≡ p ++ (a ++ b)
two p m n a b first second = rw (second, first) (append_assoc p a b)

pub begun : (c : ℕ) (before out p : List ℕ) (xs whole : List (List ℕ)) → whole ≡ p ∷ xs → out ≡ before ++ p → out ++ tails c xs ≡ before ++ join_with_byte c whole
begun c before out p xs whole whole_is is =
    rw (is, whole_is, append_assoc) (ap (λ (l : List ℕ). before ++ l) (sym (joined c p xs)))

-- the same over the texts of some elements
pub map_begun : {X : Type 0} → (f : X → List ℕ) (c : ℕ) (before out : List ℕ) (x : X) (xs whole : List X) → whole ≡ x ∷ xs → out ≡ before ++ f x → out ++ tails c (map f xs) ≡ before ++ join_with_byte c (map f whole)
map_begun {X = X} f c before out x xs whole whole_is is =
    begun c before out (f x) (map f xs) (map f whole) (ap (λ (l : List X). map f l) whole_is) is

pub map_turn : {X : Type 0} → (f : X → List ℕ) (c : ℕ) (out new whole : List ℕ) (xs : List X) (i : ℕ) (d : X) → i < length xs → out ++ tails c (map f (drop i xs)) ≡ whole → new ≡ out ++ (c ∷ f (get_or xs i d)) → new ++ tails c (map f (drop (i + 1) xs)) ≡ whole
unfolding tails
map_turn {X = X} f c out new whole xs i d below left is =
    let e : drop i xs ≡ get_or xs i d ∷ drop (i + 1) xs = rw (add-one, drop-cons xs i d) refl in
    let step : out ++ tails c (map f (get_or xs i d ∷ drop (i + 1) xs)) ≡ whole = ap (λ (l : List X). out ++ tails c (map f l)) (sym e) ∙ left in
    rw (is, append_assoc) step

pub map_end : {X : Type 0} → (f : X → List ℕ) (c : ℕ) (out whole : List ℕ) (xs : List X) (i : ℕ) → length xs ≤ i → out ++ tails c (map f (drop i xs)) ≡ whole → out ≡ whole
unfolding tails
map_end {X = X} f c out whole xs i past left =
    sym (append-nil out) ∙ ap (λ (l : List X). out ++ tails c (map f l)) (sym (drop_all i xs past)) ∙ left
