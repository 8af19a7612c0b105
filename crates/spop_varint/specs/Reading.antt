-- What some bytes begin with, as functions: readers above cite them.
use Rattle.std.specs.Prelude.{ℕ, ◌+◌, ◌*◌, ◌^◌, List, [], ◌∷◌, drop, Option, Some, None, nat_lt, cond}
use Rattle.spop_varint.specs.declared.read.Varint as answers
use Rattle.spop_varint.specs.declared.read.Varint.TheVariants.{Read, Short, TooLarge}

infixl 10 ◌>>=◌
-- one reading after the other, as long as each finds something
abbrev pub ◌>>=◌ : {A B : Type 0} → Option A → (A → Option B) → Option B
(Some found) >>= next = next found
None >>= next = None

-- the number after `used` bytes that make `sum`, the next byte times 2 ^ e
abbrev pub tail_at : ℕ → ℕ → ℕ → List ℕ → answers.Varint
tail_at used e sum [] = Short
tail_at used e sum (b ∷ bs) =
    cond (nat_lt (sum + b * 2 ^ e) (2 ^ 64))
    (cond (nat_lt b 128) (Read (sum + b * 2 ^ e) (used + 1)) (tail_at (used + 1) (e + 7) (sum + b * 2 ^ e) bs))
    TooLarge

abbrev pub number_at : List ℕ → answers.Varint
number_at [] = Short
number_at (a ∷ bs) = cond (nat_lt a 240) (Read a 1) (tail_at 1 4 a bs)

abbrev pub split_by : answers.Varint → List ℕ → Option (ℕ × List ℕ)
split_by (Read v used) bytes = Some (v, drop used bytes)
split_by Short bytes = None
split_by TooLarge bytes = None

-- the number that the bytes begin with, and those after it
abbrev pub split_number : List ℕ → Option (ℕ × List ℕ)
split_number bytes = split_by (number_at bytes) bytes
