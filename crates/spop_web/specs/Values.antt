-- The value of an argument, and what it stands for. `None` is a value that is bad.
use Rattle.std.specs.Prelude.{ℕ, ℤ, pos, negsuc, ◌&&◌, cond, nat_le, List, [], ◌∷◌, length, find, reverse, bytes_eq, Option, Some, None, option_and_then}
use Rattle.std.specs.Option.{option_map}
use Rattle.spop_data.specs.declared.value.Data as values
use Rattle.spop_data.specs.declared.value.Data.TheVariants as types
use Rattle.spop_data.specs.declared.value.Pair.{Pair}
use Rattle.web_parts.specs.declared.address.Address.{Address}
use Rattle.web_parts.specs.declared.address.Address.TheVariants as addresses
use Rattle.spop_web.specs.declared.argument.Arg.{Arg}
use Rattle.spop_web.specs.Names.{name_of}
use Rattle.spop_web.specs.declared.value.TheConstants.{MAX_NAME, MAX_PORT, MIN_STATUS, MAX_STATUS}

-- NULL counts as absent
abbrev pub present : values.Data → Option values.Data
present types.Null = None
present value = Some value

-- of two arguments of one name the later wins
abbrev pub given : Arg → List Pair → Option values.Data
given arg args =
    option_and_then (λ pair. present pair.value) (find (λ pair. bytes_eq pair.name (name_of arg)) (reverse args))

-- STRING or BINARY; absent means empty
abbrev pub text_in : Option values.Data → Option (List ℕ)
text_in None = Some []
text_in (Some (types.Text text)) = Some text
text_in (Some (types.Binary text)) = Some text
text_in (Some other) = None

-- a text of so many bytes
abbrev pub text_within : ℕ → ℕ → Option values.Data → Option (List ℕ)
text_within least most value =
    option_and_then (λ text. cond (nat_le least (length text) && nat_le (length text) most) (Some text) None)
    (text_in value)

abbrev pub identifier_in : Option values.Data → Option (List ℕ)
identifier_in value = text_within 1 MAX_NAME value

abbrev pub application_in : Option values.Data → Option (List ℕ)
application_in value = text_within 0 MAX_NAME value

abbrev pub filled : List ℕ → Option (List ℕ)
filled [] = None
filled (b ∷ text) = Some (b ∷ text)

abbrev pub method_in : Option values.Data → Option (List ℕ)
method_in value = option_and_then filled (text_in value)

-- IPV4 or IPV6; absent means none
abbrev pub address_in : Option values.Data → Option Address
address_in None = Some addresses.None
address_in (Some (types.Ipv4 octets)) = Some (addresses.V4 octets)
address_in (Some (types.Ipv6 octets)) = Some (addresses.V6 octets)
address_in (Some other) = None

abbrev pub natural : ℤ → Option ℕ
natural (pos n) = Some n
natural (negsuc n) = None

-- a number of one of the four types, if it is not negative
abbrev pub number_of : values.Data → Option ℕ
number_of (types.Int32 z) = natural z
number_of (types.Uint32 n) = Some n
number_of (types.Int64 z) = natural z
number_of (types.Uint64 n) = Some n
number_of other = None

-- a number from the one to the other, both among them
abbrev pub within : ℕ → ℕ → Option ℕ → Option ℕ
within least most number = option_and_then (λ n. cond (nat_le least n && nat_le n most) (Some n) None) number

-- absent means none
abbrev pub port_in : Option values.Data → Option (Option ℕ)
port_in None = Some None
port_in (Some value) = option_map (λ n. Some n) (within 0 MAX_PORT (number_of value))

abbrev pub status_in : Option values.Data → Option ℕ
status_in None = None
status_in (Some value) = within MIN_STATUS MAX_STATUS (number_of value)
