-- What is written for a value spells it.
use Rattle.std.proofs.Common.{ℕ, ◌<◌, ◌^◌, true, false, List, [], length, refl, arith, rules}
use Rattle.std.specs.Int.{cast_unsigned, w64}
use Rattle.std.proofs.Math.Facts.{Fits-of_z}
use Rattle.spop_varint.specs.Varint.{Spells}
use Rattle.spop_varint.proofs.Spelling.{spelled}
use Rattle.spop_data.specs.Data.{IsCounted, SpellsData, SpellsPair}
use Rattle.spop_data.specs.Writing.{number_bytes, counted, data_bytes, pair_bytes, IsData, IsPair}
use Rattle.spop_data.specs.declared.value.Data as values
use Rattle.spop_data.specs.declared.value.Data.TheVariants as types
use Rattle.spop_data.specs.declared.value.Pair.{Pair}
use Rattle.spop_data.proofs.Types.{widened}

pub number : (v : ℕ) → v < 2 ^ 64 → Spells (number_bytes v) v
unfolding number_bytes
number v small = spelled v small

pub text : (t : List ℕ) → length t < 2 ^ 64 → IsCounted (counted t) t
text t small = record { count = number_bytes (length t); count_is = number (length t) small; is = refl }

pub value : (d : values.Data) → IsData d → SpellsData (data_bytes d) d
value types.Null h = record { kind = 0; value = []; byte = omega arith; is = refl; code = refl; spelled = refl }
value (types.Bool true) h = record { kind = 17; value = []; byte = omega arith; is = refl; code = refl; spelled = (refl, search rules) }
value (types.Bool false) h = record { kind = 1; value = []; byte = omega arith; is = refl; code = refl; spelled = (refl, search rules) }
value (types.Int32 z) h = record { kind = 2; value = number_bytes (cast_unsigned w64 z); byte = omega arith; is = refl; code = refl; spelled = (number (cast_unsigned w64 z) (Fits-of_z {w = w64} {z = z} (widened z h)).fits, h) }
value (types.Uint32 n) h = record { kind = 3; value = number_bytes n; byte = omega arith; is = refl; code = refl; spelled = (number n (omega (arith, h)), h) }
value (types.Int64 z) h = record { kind = 4; value = number_bytes (cast_unsigned w64 z); byte = omega arith; is = refl; code = refl; spelled = (number (cast_unsigned w64 z) (Fits-of_z {w = w64} {z = z} h).fits, h) }
value (types.Uint64 n) h = record { kind = 5; value = number_bytes n; byte = omega arith; is = refl; code = refl; spelled = number n h }
value (types.Ipv4 address) h = record { kind = 6; value = address; byte = omega arith; is = refl; code = refl; spelled = (refl, h) }
value (types.Ipv6 address) h = record { kind = 7; value = address; byte = omega arith; is = refl; code = refl; spelled = (refl, h) }
value (types.Text t) h = record { kind = 8; value = counted t; byte = omega arith; is = refl; code = refl; spelled = text t h }
value (types.Binary t) h = record { kind = 9; value = counted t; byte = omega arith; is = refl; code = refl; spelled = text t h }

pub pair : (p : Pair) → IsPair p → SpellsPair (pair_bytes p) p
pair p h = record { name = counted p.name; value = data_bytes p.value; name_is = text p.name h.name; value_is = value p.value h.value; is = refl }
