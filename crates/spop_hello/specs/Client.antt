-- What the pairs of a HELLO say.
use Rattle.std.specs.Prelude.{ℕ, Bool, false, List, [], ◌∷◌, if◌then◌else◌, Option, Some, None, ℤ, pos, negsuc}
use Rattle.std.specs.Str.{bytes_eq}
use Rattle.spop_data.specs.declared.value.Data as values
use Rattle.spop_data.specs.declared.value.Data.TheVariants as types
use Rattle.spop_data.specs.declared.value.Pair.{Pair}

abbrev pub or_else : Option values.Data → Option values.Data → Option values.Data
or_else (Some d) other = Some d
or_else None other = other

-- the value of the last pair of that name, whatever its type
abbrev pub value_of : List ℕ → List Pair → Option values.Data
value_of name [] = None
value_of name (p ∷ ps) = or_else (value_of name ps) (if bytes_eq p.name name then Some p.value else None)

-- a value of another type counts as absent
abbrev pub text_of : Option values.Data → Option (List ℕ)
text_of (Some (types.Text text)) = Some text
text_of other = None

-- a negative number is below every size, as 0 is
abbrev pub or_zero : ℤ → ℕ
or_zero (pos n) = n
or_zero (negsuc n) = 0

abbrev pub size_of : Option values.Data → Option ℕ
size_of (Some (types.Int32 z)) = Some (or_zero z)
size_of (Some (types.Uint32 n)) = Some n
size_of (Some (types.Int64 z)) = Some (or_zero z)
size_of (Some (types.Uint64 n)) = Some n
size_of other = None

abbrev pub is_true : Option values.Data → Bool
is_true (Some (types.Bool b)) = b
is_true other = false
