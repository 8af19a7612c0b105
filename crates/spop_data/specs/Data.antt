-- How SPOP spells typed data and pairs (SPOE.txt, 3.1).
use Rattle.std.specs.Prelude.{◌≡◌, ◌↔◌, ℕ, ◌^◌, ◌%◌, ◌<◌, List, [], ◌∷◌, ◌++◌, length, IsTrue, FitsSigned}
use Rattle.std.specs.Int.{cast_unsigned, w32, w64, IsBitSet}
use Rattle.spop_varint.specs.Varint.{Spells}
use Rattle.spop_data.specs.declared.kind.TheConstants.{BINARY, BOOLEAN, FLAGS, INT32, INT64, IPV4, IPV4_LENGTH, IPV6, IPV6_LENGTH, NULL, STRING, TRUE_BIT, UINT32, UINT64}
use Rattle.spop_data.specs.declared.value.Data as values
use Rattle.spop_data.specs.declared.value.Data.TheVariants as types
use Rattle.spop_data.specs.declared.value.Pair.{Pair}
use Rattle.spop_data.specs.Lists.{SpellsEach}

-- the number of a type
abbrev pub code_of : values.Data → ℕ
code_of types.Null = NULL
code_of (types.Bool b) = BOOLEAN
code_of (types.Int32 z) = INT32
code_of (types.Uint32 n) = UINT32
code_of (types.Int64 z) = INT64
code_of (types.Uint64 n) = UINT64
code_of (types.Ipv4 address) = IPV4
code_of (types.Ipv6 address) = IPV6
code_of (types.Text text) = STRING
code_of (types.Binary text) = BINARY

-- how many bytes there are, and these
pub record IsCounted (bytes text : List ℕ) : Type 0 where
  pub count : List ℕ
  pub count_is : Spells count (length text)
  pub is : bytes ≡ count ++ text

-- a counted text, and the bytes after it
abbrev pub IsText : List ℕ → List ℕ → List ℕ → Type 0
IsText bytes text rest = (front : List ℕ) × IsCounted front text × (bytes ≡ front ++ rest)

-- What follows the first byte `kind`. A signed number is its 64-bit word in two's complement.
-- A BOOLEAN is a flag of that byte.
abbrev pub SpellsValue : ℕ → List ℕ → values.Data → Type 0
SpellsValue kind bytes types.Null = bytes ≡ []
SpellsValue kind bytes (types.Bool b) = (bytes ≡ []) × (IsTrue b ↔ IsBitSet kind TRUE_BIT)
SpellsValue kind bytes (types.Int32 z) = Spells bytes (cast_unsigned w64 z) × FitsSigned w32 z
SpellsValue kind bytes (types.Uint32 n) = Spells bytes n × (n < 2 ^ 32)
SpellsValue kind bytes (types.Int64 z) = Spells bytes (cast_unsigned w64 z) × FitsSigned w64 z
SpellsValue kind bytes (types.Uint64 n) = Spells bytes n
SpellsValue kind bytes (types.Ipv4 address) = (bytes ≡ address) × (length address ≡ IPV4_LENGTH)
SpellsValue kind bytes (types.Ipv6 address) = (bytes ≡ address) × (length address ≡ IPV6_LENGTH)
SpellsValue kind bytes (types.Text text) = IsCounted bytes text
SpellsValue kind bytes (types.Binary text) = IsCounted bytes text

-- The low four bits of the first byte are the type. Its other bits are flags, free but for a BOOLEAN's.
pub record SpellsData (bytes : List ℕ) (d : values.Data) : Type 0 where
  pub kind : ℕ
  pub value : List ℕ
  pub byte : kind < 256
  pub is : bytes ≡ kind ∷ value
  pub code : kind % FLAGS ≡ code_of d
  pub spelled : SpellsValue kind value d

pub record SpellsPair (bytes : List ℕ) (p : Pair) : Type 0 where
  pub name : List ℕ
  pub value : List ℕ
  pub name_is : IsCounted name p.name
  pub value_is : SpellsData value p.value
  pub is : bytes ≡ name ++ value

-- so many pairs, one after the other
pub record SpellsPairs (count : ℕ) (bytes : List ℕ) (ps : List Pair) : Type 0 where
  pub each : SpellsEach SpellsPair bytes ps
  pub number : length ps ≡ count
