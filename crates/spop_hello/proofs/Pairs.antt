-- The pairs of a HELLO, and the last of a name.
use Rattle.std.proofs.Common.{◌≡◌, ℕ, ◌<◌, Bool, true, false, eqb, cond, List, [], ◌∷◌, ◌++◌, length, Option, Some, None, refl, sym, ◌∙◌, ap, arith, length-append}
use Rattle.std.proofs.lemmas.Bool.{false≢true}
use Rattle.std.specs.Str.{bytes_eq}
use Rattle.spop_data.specs.Data.{SpellsPair}
use Rattle.spop_data.specs.declared.value.Data as values
use Rattle.spop_data.specs.declared.value.Pair.{Pair}
use Rattle.spop_hello.specs.Client.{or_else, value_of}

-- a pair has a byte at least
pub some : (bytes : List ℕ) (p : Pair) → SpellsPair bytes p → 0 < length bytes
some bytes p s = omega (arith, ap length s.is, length-append s.name s.value, ap length s.value_is.is)

pub not_empty : (bytes : List ℕ) (empty : Bool) → empty ≡ false → empty ≡ eqb (length bytes) 0 → 0 < length bytes
not_empty [] empty no_ is = absurd (false≢true (sym no_ ∙ is))
not_empty (b ∷ bytes) empty no_ is = omega arith

named : List ℕ → Pair → Option values.Data
named name p = cond (bytes_eq p.name name) (Some p.value) None

or_else_assoc : (a b c : Option values.Data) → or_else (or_else a b) c ≡ or_else a (or_else b c)
or_else_assoc (Some d) b c = refl
or_else_assoc None b c = refl

or_else_none : (a : Option values.Data) → or_else a None ≡ a
or_else_none (Some d) = refl
or_else_none None = refl

value_more : (name : List ℕ) (ps : List Pair) (p : Pair) → value_of name (ps ++ p ∷ []) ≡ or_else (named name p) (value_of name ps)
unfolding named
value_more name [] p = sym (or_else_none (named name p))
value_more name (q ∷ ps) p =
    ap (λ (o : Option values.Data). or_else o (named name q)) (value_more name ps p)
    ∙ or_else_assoc (named name p) (value_of name ps) (named name q)

pub value_is : (name : List ℕ) (ps : List Pair) (p : Pair) → bytes_eq p.name name ≡ true → value_of name (ps ++ p ∷ []) ≡ Some p.value
unfolding named
value_is name ps p same = value_more name ps p ∙ (rw same refl)

pub value_stays : (name : List ℕ) (ps : List Pair) (p : Pair) → bytes_eq p.name name ≡ false → value_of name (ps ++ p ∷ []) ≡ value_of name ps
unfolding named
value_stays name ps p other = value_more name ps p ∙ (rw other refl)
