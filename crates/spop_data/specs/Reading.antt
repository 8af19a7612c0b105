-- What some bytes begin with and the bytes after it, as functions.
use Rattle.std.specs.Prelude.{ℕ, ◌^◌, ◌%◌, List, [], ◌∷◌, length, take, drop, ℤ, pos, negsuc, Bool, not, nat_lt, nat_le, nat_eq, if◌then◌else◌, Option, Some, None, bit_and}
use Rattle.std.specs.Int.{cast_signed, w64}
use Rattle.spop_varint.specs.Reading.{split_number, ◌>>=◌}
use Rattle.spop_data.specs.declared.kind.TheConstants.{BINARY, BOOLEAN, FLAGS, INT32, INT64, IPV4, IPV4_LENGTH, IPV6, IPV6_LENGTH, NULL, STRING, TRUE, UINT32, UINT64}
use Rattle.spop_data.specs.declared.value.Data as values
use Rattle.spop_data.specs.declared.value.Data.TheVariants as types
use Rattle.spop_data.specs.declared.value.Pair.{Pair}
use Rattle.spop_data.specs.Lists.{several_at}

-- a number
unfoldable pub varint_at : List ℕ → Option (ℕ × List ℕ)
varint_at bytes = split_number bytes

-- so many bytes
unfoldable pub cut_at : ℕ → List ℕ → Option (List ℕ × List ℕ)
cut_at count bytes = if nat_le count (length bytes) then Some (take count bytes, drop count bytes) else None

-- a number and that many bytes
unfoldable pub counted_at : List ℕ → Option (List ℕ × List ℕ)
counted_at bytes = do
  count ← varint_at bytes
  cut_at count.0 count.1

-- -2 ^ 31 to 2 ^ 31 - 1
abbrev pub is_int32 : ℤ → Bool
is_int32 (pos n) = nat_lt n (2 ^ 31)
is_int32 (negsuc n) = nat_lt n (2 ^ 31)

unfoldable pub int32_at : List ℕ → Option (values.Data × List ℕ)
int32_at bytes = do
  word ← varint_at bytes
  if is_int32 (cast_signed w64 word.0) then Some (types.Int32 (cast_signed w64 word.0), word.1) else None

unfoldable pub uint32_at : List ℕ → Option (values.Data × List ℕ)
uint32_at bytes = do
  word ← varint_at bytes
  if nat_lt word.0 (2 ^ 32) then Some (types.Uint32 word.0, word.1) else None

unfoldable pub int64_at : List ℕ → Option (values.Data × List ℕ)
int64_at bytes = do
  word ← varint_at bytes
  Some (types.Int64 (cast_signed w64 word.0), word.1)

unfoldable pub uint64_at : List ℕ → Option (values.Data × List ℕ)
uint64_at bytes = do
  word ← varint_at bytes
  Some (types.Uint64 word.0, word.1)

unfoldable pub ipv4_at : List ℕ → Option (values.Data × List ℕ)
ipv4_at bytes = do
  address ← cut_at IPV4_LENGTH bytes
  Some (types.Ipv4 address.0, address.1)

unfoldable pub ipv6_at : List ℕ → Option (values.Data × List ℕ)
ipv6_at bytes = do
  address ← cut_at IPV6_LENGTH bytes
  Some (types.Ipv6 address.0, address.1)

unfoldable pub text_at : List ℕ → Option (values.Data × List ℕ)
text_at bytes = do
  text ← counted_at bytes
  Some (types.Text text.0, text.1)

unfoldable pub binary_at : List ℕ → Option (values.Data × List ℕ)
binary_at bytes = do
  text ← counted_at bytes
  Some (types.Binary text.0, text.1)

-- the flag of a BOOLEAN
abbrev pub flag_of : ℕ → Bool
flag_of kind = not (nat_eq (bit_and kind TRUE) 0)

-- a value of the type of that number
abbrev pub typed_at : ℕ → ℕ → List ℕ → Option (values.Data × List ℕ)
typed_at code kind bytes =
    if nat_eq code NULL then Some (types.Null, bytes)
    else (if nat_eq code BOOLEAN then Some (types.Bool (flag_of kind), bytes)
    else (if nat_eq code INT32 then int32_at bytes
    else (if nat_eq code UINT32 then uint32_at bytes
    else (if nat_eq code INT64 then int64_at bytes
    else (if nat_eq code UINT64 then uint64_at bytes
    else (if nat_eq code IPV4 then ipv4_at bytes
    else (if nat_eq code IPV6 then ipv6_at bytes
    else (if nat_eq code STRING then text_at bytes
    else (if nat_eq code BINARY then binary_at bytes
    else None)))))))))

-- what the first byte names by its low four bits
unfoldable pub value_at : ℕ → List ℕ → Option (values.Data × List ℕ)
value_at kind bytes = typed_at (kind % FLAGS) kind bytes

abbrev pub data_at : List ℕ → Option (values.Data × List ℕ)
data_at [] = None
data_at (kind ∷ bytes) = value_at kind bytes

unfoldable pub pair_at : List ℕ → Option (Pair × List ℕ)
pair_at bytes = do
  name ← counted_at bytes
  value ← data_at name.1
  Some (record { name = name.0; value = value.0 }, value.1)

-- so many pairs
unfoldable pub pairs_at : ℕ → List ℕ → Option (List Pair × List ℕ)
pairs_at count bytes = several_at pair_at count bytes
