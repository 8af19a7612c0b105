-- The bytes that are written for a value, as functions: of its spellings the one without idle flags.
use Rattle.std.specs.Prelude.{◌≡◌, ℕ, ◌+◌, ◌^◌, ◌<◌, List, [], ◌∷◌, ◌++◌, length, if◌then◌else◌, FitsSigned}
use Rattle.std.specs.Int.{cast_unsigned, w32, w64}
use Rattle.spop_varint.specs.Writing.{spelling}
use Rattle.spop_data.specs.declared.kind.TheConstants.{BINARY, BOOLEAN, INT32, INT64, IPV4, IPV4_LENGTH, IPV6, IPV6_LENGTH, NULL, STRING, TRUE, UINT32, UINT64}
use Rattle.spop_data.specs.declared.value.Data as values
use Rattle.spop_data.specs.declared.value.Data.TheVariants as types
use Rattle.spop_data.specs.declared.value.Pair.{Pair}

-- a number
unfoldable pub number_bytes : ℕ → List ℕ
number_bytes n = spelling n

-- a text after its length
abbrev pub counted : List ℕ → List ℕ
counted text = number_bytes (length text) ++ text

abbrev pub data_bytes : values.Data → List ℕ
data_bytes types.Null = NULL ∷ []
data_bytes (types.Bool b) = (if b then BOOLEAN + TRUE else BOOLEAN) ∷ []
data_bytes (types.Int32 z) = INT32 ∷ number_bytes (cast_unsigned w64 z)
data_bytes (types.Uint32 n) = UINT32 ∷ number_bytes n
data_bytes (types.Int64 z) = INT64 ∷ number_bytes (cast_unsigned w64 z)
data_bytes (types.Uint64 n) = UINT64 ∷ number_bytes n
data_bytes (types.Ipv4 address) = IPV4 ∷ address
data_bytes (types.Ipv6 address) = IPV6 ∷ address
data_bytes (types.Text text) = STRING ∷ counted text
data_bytes (types.Binary text) = BINARY ∷ counted text

abbrev pub pair_bytes : Pair → List ℕ
pair_bytes p = counted p.name ++ data_bytes p.value

-- a value that a program can hold: in the range of its type, and no longer than memory
abbrev pub IsData : values.Data → Type 0
IsData types.Null = Unit {0}
IsData (types.Bool b) = Unit {0}
IsData (types.Int32 z) = FitsSigned w32 z
IsData (types.Uint32 n) = n < 2 ^ 32
IsData (types.Int64 z) = FitsSigned w64 z
IsData (types.Uint64 n) = n < 2 ^ 64
IsData (types.Ipv4 address) = length address ≡ IPV4_LENGTH
IsData (types.Ipv6 address) = length address ≡ IPV6_LENGTH
IsData (types.Text text) = length text < 2 ^ 64
IsData (types.Binary text) = length text < 2 ^ 64

pub record IsPair (p : Pair) : Type 0 where
  pub name : length p.name < 2 ^ 64
  pub value : IsData p.value

-- bytes were added at the end, or none
abbrev pub Grows : List ℕ → List ℕ → Type 0
Grows old new = (more : List ℕ) × (new ≡ old ++ more)
