-- The first argument that is bad.
use Rattle.std.specs.Prelude.{Bool, true, false, not, List, find, Option, Some, None}
use Rattle.std.specs.Option.{option_map}
use Rattle.spop_data.specs.declared.value.Data as values
use Rattle.spop_data.specs.declared.value.Pair.{Pair}
use Rattle.spop_web.specs.declared.argument.Arg.{Arg}
use Rattle.spop_web.specs.Values.{given}

-- an argument, and which values of it are good
pub record Rule : Type 0 where
  pub arg : Arg
  pub good : Option values.Data → Bool

abbrev pub rule : Arg → (Option values.Data → Bool) → Rule
rule arg good = record { arg = arg; good = good }

-- whether the arguments are good by the rule
abbrev pub meets : List Pair → Rule → Bool
meets args r = r.good (given r.arg args)

-- the first in the order of the rules
abbrev pub first_bad : List Rule → List Pair → Option Arg
first_bad rules args = option_map (λ r. r.arg) (find (λ r. not (meets args r)) rules)

-- the one that was bad before, or else this one, if it is bad
abbrev pub noted : Option Arg → Arg → Bool → Option Arg
noted (Some bad) arg good = Some bad
noted None arg true = None
noted None arg false = Some arg
