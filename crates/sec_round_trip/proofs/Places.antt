-- Where a byte first stands in a text.
use Rattle.std.proofs.Common.{◌≡◌, ℕ, suc, Bool, true, false, List, [], ◌∷◌, ◌++◌, length, take, drop, refl, sym, ap, ◌∙◌, append-nil, arith}
use Rattle.std.specs.Prelude.{◌||◌}
use Rattle.std.specs.List.{list_any, position_or_len}
use Rattle.std.proofs.lemmas.Bool.{or_parts}
use Rattle.std.proofs.lemmas.List.{drop_at, take_at}

pub one_more : (p : ℕ → Bool) (b : ℕ) (text : List ℕ) → p b ≡ false → position_or_len p (b ∷ text) ≡ suc (position_or_len p text)
one_more p b text h = rw h (omega arith)

pub here : (p : ℕ → Bool) (b : ℕ) (text : List ℕ) → p b ≡ true → position_or_len p (b ∷ text) ≡ 0
here p b text h = rw h refl

pub to_at : (p : ℕ → Bool) (front : List ℕ) (c : ℕ) (rest : List ℕ) → list_any p front ≡ false → p c ≡ true → position_or_len p (front ++ c ∷ rest) ≡ length front
to_at p [] c rest none is = here p c rest is
to_at p (b ∷ front) c rest none is =
    let parts = or_parts (p b) (list_any p front) none in
    one_more p b (front ++ c ∷ rest) parts.0 ∙ ap suc (to_at p front c rest parts.1 is)

pub to_end : (p : ℕ → Bool) (front : List ℕ) → list_any p front ≡ false → position_or_len p front ≡ length front
to_end p [] none = refl
to_end p (b ∷ front) none =
    let parts = or_parts (p b) (list_any p front) none in
    one_more p b front parts.0 ∙ ap suc (to_end p front parts.1)

pub take_to : (n : ℕ) (front rest : List ℕ) → n ≡ length front → take n (front ++ rest) ≡ front
take_to n front rest is = take_at front rest n (sym is)

pub drop_to : (n : ℕ) (front rest : List ℕ) → n ≡ length front → drop n (front ++ rest) ≡ rest
drop_to n front rest is = drop_at front rest n (sym is)

pub any_append : (p : ℕ → Bool) (xs ys : List ℕ) → list_any p xs ≡ false → list_any p ys ≡ false → list_any p (xs ++ ys) ≡ false
any_append p [] ys none more = more
any_append p (b ∷ xs) ys none more =
    let parts = or_parts (p b) (list_any p xs) none in rw parts.0 (any_append p xs ys parts.1 more)

or_true : (q : Bool) → (q || true) ≡ true
or_true true = refl
or_true false = refl

pub any_behind : (p : ℕ → Bool) (front : List ℕ) (c : ℕ) (rest : List ℕ) → p c ≡ true → list_any p (front ++ c ∷ rest) ≡ true
any_behind p [] c rest is = rw is refl
any_behind p (b ∷ front) c rest is = rw (any_behind p front c rest is) (or_true (p b))

-- where a text ends, or goes on with such a byte
abbrev pub stops : (ℕ → Bool) → List ℕ → Bool
stops p [] = true
stops p (b ∷ rest) = p b

pub to_stop : (p : ℕ → Bool) (front rest : List ℕ) → list_any p front ≡ false → stops p rest ≡ true → position_or_len p (front ++ rest) ≡ length front
to_stop p front [] none is = ap (position_or_len p) (append-nil front) ∙ to_end p front none
to_stop p front (b ∷ rest) none is = to_at p front b rest none is
