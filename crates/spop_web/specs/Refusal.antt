-- How an argument is refused.
use Rattle.std.specs.Prelude.{◌≡◌, ℕ, List, Option, Some}
use Rattle.spop_web.specs.declared.argument.Arg.{Arg}
use Rattle.spop_web.specs.declared.argument.ArgFault.{ArgFault}
use Rattle.spop_web.specs.declared.argument.ArgFault.TheVariants as faults

-- the fault names the first argument that is bad, with the identifier where that is good; `NoMemory` says nothing
abbrev pub RefusesFirst : ArgFault → Option Arg → Option (List ℕ) → Type 0
RefusesFirst (faults.Bad arg id) bad identifier = (bad ≡ Some arg) × (id ≡ identifier)
RefusesFirst faults.NoMemory bad identifier = Unit {0}
