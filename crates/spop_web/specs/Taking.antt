-- Arguments whose values were taken out.
use Rattle.std.specs.Prelude.{ℕ, List, cond, map, bytes_eq}
use Rattle.spop_data.specs.declared.value.Data.TheVariants as types
use Rattle.spop_data.specs.declared.value.Pair.{Pair}
use Rattle.spop_web.specs.declared.argument.Arg.{Arg}
use Rattle.spop_web.specs.Names.{name_of}

-- the pair, with NULL as its value where it has the name
abbrev pub emptied : List ℕ → Pair → Pair
emptied name pair = cond (bytes_eq pair.name name) (record pair { value = types.Null }) pair

-- the arguments after the values of those of one name were taken
abbrev pub without : Arg → List Pair → List Pair
without arg args = map (emptied (name_of arg)) args
