-- The variables of TX. Their names are kept in lower case.
use Rattle.std.specs.Prelude.{ℕ, ◌+◌, cond, not, List, [], ◌∷◌, map, filter, length, nat_le}
use Rattle.std.specs.Char.{to_ascii_lowercase}
use Rattle.web_parts.specs.declared.row.NameValue.{NameValue}
use Rattle.sec_collect.specs.declared.variables.TheConstants.{VARIABLES_LIMIT}
use Rattle.sec_collect.specs.Row.{row, is_named, size_of}

-- the value takes the place of the one under that name, or stands at the end
abbrev pub put : List ℕ → List ℕ → List NameValue → List NameValue
put name value [] = row (map to_ascii_lowercase name) value ∷ []
put name value (r ∷ tx) = cond (is_named name r) (record r { value = value } ∷ tx) (r ∷ put name value tx)

abbrev pub without : List ℕ → List NameValue → List NameValue
without name tx = filter (λ r. not (is_named name r)) tx

-- a put after which names and values would have more bytes than the limit changes nothing
abbrev pub put_within : List ℕ → List ℕ → List NameValue → List NameValue
put_within name value tx =
    cond (nat_le (size_of (without name tx) + (length name + length value)) VARIABLES_LIMIT) (put name value tx) tx

-- what puts and deletions make, one after the other
pub data ArePut : List NameValue → Type 0 where
  none : ArePut []
  by_put : (name value : List ℕ) (tx : List NameValue) → ArePut tx → ArePut (put_within name value tx)
  by_deletion : (name : List ℕ) (tx : List NameValue) → ArePut tx → ArePut (without name tx)
