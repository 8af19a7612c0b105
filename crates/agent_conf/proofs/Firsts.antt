-- The first of two lists behind one another.
use Rattle.std.proofs.Common.{◌≡◌, List, [], ◌∷◌, ◌++◌, refl, Some, None}
use Rattle.agent_conf.specs.Reading.{first}

pub first_behind : {A : Type 0} (xs ys : List A) → first xs ≡ None → first (xs ++ ys) ≡ first ys
first_behind [] ys h = refl
first_behind (x ∷ xs) ys h = cc

pub first_before : {A : Type 0} (xs ys : List A) (a : A) → first xs ≡ Some a → first (xs ++ ys) ≡ Some a
first_before [] ys a h = cc
first_before (x ∷ xs) ys a h = h

pub first_none : {A : Type 0} (xs : List A) → first xs ≡ None → xs ≡ []
first_none [] h = refl
first_none (x ∷ xs) h = cc

-- three lists, as the bad values of a document are
pub in_first : {A : Type 0} (xs ys zs : List A) (a : A) → first xs ≡ Some a → first (xs ++ [] ++ ys ++ zs) ≡ Some a
in_first xs ys zs a h = first_before (xs ++ [] ++ ys) zs a (first_before (xs ++ []) ys a (first_before xs [] a h))

pub in_second : {A : Type 0} (xs ys zs : List A) (a : A) → xs ≡ [] → first ys ≡ Some a → first (xs ++ [] ++ ys ++ zs) ≡ Some a
in_second xs ys zs a none h = rw none (first_before ys zs a h)

pub in_third : {A : Type 0} (xs ys zs : List A) (a : A) → xs ≡ [] → ys ≡ [] → first zs ≡ Some a → first (xs ++ [] ++ ys ++ zs) ≡ Some a
in_third xs ys zs a none no_more h = rw (none, no_more) h

pub in_none : {A : Type 0} (xs ys zs : List A) → xs ≡ [] → ys ≡ [] → zs ≡ [] → xs ++ [] ++ ys ++ zs ≡ []
in_none xs ys zs none no_more nothing = rw (none, no_more, nothing) refl
