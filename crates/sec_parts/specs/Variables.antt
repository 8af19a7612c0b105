-- Variables that are refused by name.
use Rattle.std.specs.Prelude.{ℕ, Bool, ◌||◌, codes, List, [], ◌∷◌}
use Rattle.sec_ast.specs.Names.{is_one_of}
use Rattle.sec_parts.specs.Texts.{begins_named}

abbrev pub refused_variables : List (List ℕ)
refused_variables =
    codes "GEO" ∷
    codes "ENV" ∷
    codes "IP" ∷
    codes "SESSION" ∷
    codes "USER" ∷
    codes "GLOBAL" ∷
    codes "RESOURCE" ∷
    codes "RULE" ∷
    codes "DURATION" ∷
    codes "FULL_REQUEST" ∷
    codes "FULL_REQUEST_LENGTH" ∷
    []

unfoldable pub is_refused_variable : List ℕ → Bool
is_refused_variable name =
    is_one_of refused_variables name || begins_named (codes "TIME") name || begins_named (codes "PERF_") name
