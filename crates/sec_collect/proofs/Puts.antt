-- A variable that is put into a list.
use Rattle.std.proofs.Common.{◌≡◌, ◌∙◌, ℕ, ◌<◌, List, ◌∷◌, ◌++◌, suc, length, get_or, take, drop, set, true, refl, sym, arith, add-one}
use Rattle.std.specs.Prelude.{◌+◌, nat_le, Result, Ok, Err}
use Rattle.std.specs.Result.{OnErr, OnOk}
use Rattle.std.proofs.Math.Seq.{drop-cons}
use Rattle.std.proofs.lemmas.List.{take-append-drop, take-set, drop-set}
use Rattle.std.proofs.lemmas.Grind.{common_steps}
use Rattle.web_parts.specs.declared.row.NameValue.{NameValue}
use Rattle.sec_collect.specs.declared.variables.TheConstants.{VARIABLES_LIMIT}
use Rattle.sec_collect.specs.Row.{is_named, size_of}
use Rattle.sec_collect.specs.Variables.{ArePut, by_put, put, without}

-- items of a list's own length, put into it
pub items_put : {A : Type 0} (xs ys : List A) → length ys ≡ length xs → take (length xs) (ys ++ drop (length ys) xs) ≡ ys
items_put xs ys same = grind (arith, common_steps, same)

set_is : {A : Type 0} (xs : List A) (i : ℕ) (y : A) → i < length xs → take i xs ++ y ∷ drop (suc i) xs ≡ set xs i y
set_is xs i y below = sym (sym (take-append-drop i (set xs i y)) ∙ rw (take-set, drop-set, add-one) refl)

pub put_here : (xs : List NameValue) (n v : List ℕ) (i : ℕ) (d : NameValue) → i < length xs → put n v xs ≡ take i xs ++ put n v (drop i xs) → is_named n (get_or xs i d) ≡ true
    → put n v xs ≡ set xs i (record (get_or xs i d) { value = v })
put_here xs n v i d below before there = before ∙ (rw (drop-cons xs i d, there) (set_is xs i (record (get_or xs i d) { value = v }) below))

-- a put that fits keeps to what puts make, and out of memory nothing changes
pub stay_put : {T E : Type 0} (r : Result T E) (n v : List ℕ) (old new : List NameValue)
    → nat_le (size_of (without n old) + (length n + length v)) VARIABLES_LIMIT ≡ true
    → ArePut old → OnOk r (new ≡ put n v old) → OnErr r (new ≡ old) → ArePut new
stay_put (Ok x) n v old new fits are ok err = rw ok (rw fits at (by_put n v old are))
stay_put (Err e) n v old new fits are ok err = rw err are
