-- What taking the values of one name leaves.
use Rattle.std.proofs.Common.{◌≡◌, ℕ, zero, suc, ◌+◌, ◌<◌, Bool, true, false, cond, List, [], ◌∷◌, ◌++◌, length, get_or, set, take, drop, map, reverse, refl, sym, ap, ◌∙◌, arith, Option, Some}
use Rattle.std.proofs.lemmas.List.{map-append, reverse-append}
use Rattle.std.proofs.lemmas.Slice.Eq.{bytes_eq-Decides}
use Rattle.std.specs.Prelude.{bytes_eq, find, option_and_then}
use Rattle.spop_data.specs.declared.value.Data as values
use Rattle.spop_data.specs.declared.value.Pair.{Pair}
use Rattle.spop_web.specs.declared.argument.Arg.{Arg}
use Rattle.spop_web.specs.Names.{name_of}
use Rattle.spop_web.specs.Taking.{emptied, without}
use Rattle.spop_web.specs.Values.{given, present}

-- the value of the first of the pairs that has the name
abbrev value_of : List ℕ → List Pair → Option values.Data
value_of name pairs = option_and_then (λ q. present q.value) (find (λ q. bytes_eq q.name name) pairs)

chosen : (found : Bool) (pair : Pair) (rest : Option Pair) (value : Option values.Data) → option_and_then (λ q. present q.value) rest ≡ value
    → option_and_then (λ q. present q.value) (cond found (Some pair) rest) ≡ cond found (present pair.value) value
chosen true pair rest value is = refl
chosen false pair rest value is = is

-- a further argument wins where it has the name
pub given_push : (arg : Arg) (args : List Pair) (pair : Pair)
    → given arg (args ++ pair ∷ []) ≡ cond (bytes_eq pair.name (name_of arg)) (present pair.value) (given arg args)
given_push arg args pair =
    ap (value_of (name_of arg)) (reverse-append args (pair ∷ []))
    ∙ chosen (bytes_eq pair.name (name_of arg)) pair (find (λ q. bytes_eq q.name (name_of arg)) (reverse args)) (given arg args) refl

pub present_cond : (found : Bool) (value before : values.Data) → present (cond found value before) ≡ cond found (present value) (present before)
present_cond true value before = refl
present_cond false value before = refl

reverse_map : (g : Pair → Pair) (pairs : List Pair) → reverse (map g pairs) ≡ map g (reverse pairs)
reverse_map g [] = refl
reverse_map g (p ∷ pairs) =
    reverse-append (g p ∷ []) (map g pairs)
    ∙ ap (λ (l : List Pair). l ++ g p ∷ []) (reverse_map g pairs)
    ∙ sym (map-append g (reverse pairs) (p ∷ []))
    ∙ ap (map g) (sym (reverse-append (p ∷ []) pairs))

step : (name taken : List ℕ) (p : Pair) (pairs : List Pair) (b : Bool) → bytes_eq p.name taken ≡ b → bytes_eq taken name ≡ false
    → value_of name (map (emptied taken) pairs) ≡ value_of name pairs → value_of name (map (emptied taken) (p ∷ pairs)) ≡ value_of name (p ∷ pairs)
step name taken p pairs true is apart rest =
    let other : bytes_eq p.name name ≡ false = ap (λ (l : List ℕ). bytes_eq l name) ((bytes_eq-Decides p.name taken).0 is) ∙ apart in
    rw (is, other) rest
step name taken p pairs false is apart rest =
    rw is (chosen (bytes_eq p.name name) p (find (λ q. bytes_eq q.name name) (map (emptied taken) pairs)) (value_of name pairs) rest
    ∙ sym (chosen (bytes_eq p.name name) p (find (λ q. bytes_eq q.name name) pairs) (value_of name pairs) refl))

same_value : (name taken : List ℕ) (pairs : List Pair) → bytes_eq taken name ≡ false → value_of name (map (emptied taken) pairs) ≡ value_of name pairs
same_value name taken [] apart = refl
same_value name taken (p ∷ pairs) apart = step name taken p pairs (bytes_eq p.name taken) refl apart (same_value name taken pairs apart)

-- the arguments of other names stay
pub given_without : (arg taken : Arg) (args : List Pair) → bytes_eq (name_of taken) (name_of arg) ≡ false → given arg (without taken args) ≡ given arg args
given_without arg taken args apart =
    ap (value_of (name_of arg)) (reverse_map (emptied (name_of taken)) args) ∙ same_value (name_of arg) (name_of taken) (reverse args) apart

-- a list whose front was mapped is mapped one further
mapped_suc : (g : Pair → Pair) (xs : List Pair) (i : ℕ) (d : Pair) → i < length xs
    → (get_or (map g (take i xs) ++ drop i xs) i d ≡ get_or xs i d) × (set (map g (take i xs) ++ drop i xs) i (g (get_or xs i d)) ≡ map g (take (suc i) xs) ++ drop (suc i) xs)
mapped_suc g [] i d inside = absurd (omega (arith, inside))
mapped_suc g (x ∷ xs) zero d inside = (refl, refl)
mapped_suc g (x ∷ xs) (suc i) d inside =
    let rest = mapped_suc g xs i d (omega (arith, inside)) in
    (rest.0, ap (λ (l : List Pair). g x ∷ l) rest.1)

pub mapped_next : (g : Pair → Pair) (xs : List Pair) (i : ℕ) (d : Pair) → i < length xs
    → (get_or (map g (take i xs) ++ drop i xs) i d ≡ get_or xs i d) × (set (map g (take i xs) ++ drop i xs) i (g (get_or xs i d)) ≡ map g (take (i + 1) xs) ++ drop (i + 1) xs)
mapped_next g xs i d inside =
    let both = mapped_suc g xs i d inside in
    let next_ : suc i ≡ i + 1 = omega arith in
    (both.0, both.1 ∙ ap (λ (n : ℕ). map g (take n xs) ++ drop n xs) next_)
