-- The one spelling of a number, as a function.
use Rattle.spop_varint.specs.declared.write.TheConstants.{MAX_LENGTH}
use Rattle.std.specs.Prelude.{ℕ, zero, suc, ◌+◌, ◌-◌, ◌/◌, ◌%◌, List, [], ◌∷◌, nat_lt, cond}

-- what follows the first byte, in at most so many bytes
abbrev pub tail_of : ℕ → ℕ → List ℕ
tail_of zero rest = []
tail_of (suc most) rest = cond (nat_lt rest 128) (rest ∷ []) ((rest % 128 + 128) ∷ tail_of most ((rest - 128) / 128))

-- as many bytes as hold every number below 2 ^ 64
abbrev pub spelling : ℕ → List ℕ
spelling v = cond (nat_lt v 240) (v ∷ []) ((v % 16 + 240) ∷ tail_of (MAX_LENGTH - 1) ((v - 240) / 16))
