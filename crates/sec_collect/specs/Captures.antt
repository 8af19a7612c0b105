-- The texts that a rule captured.
use Rattle.std.specs.Prelude.{◌≡◌, ℕ, ◌+◌, List, [], ◌∷◌, take, decimal, Option, Some, None}
use Rattle.web_parts.specs.declared.row.NameValue.{NameValue}
use Rattle.sec_collect.specs.declared.captures.TheConstants.{KEPT_GROUPS}
use Rattle.sec_collect.specs.Row.{row}

-- the texts that are there, each named by its place
abbrev pub numbered : ℕ → List (Option (List ℕ)) → List NameValue
numbered n [] = []
numbered n (None ∷ texts) = numbered (n + 1) texts
numbered n (Some text ∷ texts) = row (decimal n) text ∷ numbered (n + 1) texts

-- of the first groups
abbrev pub captured_rows : List (Option (List ℕ)) → List NameValue
captured_rows groups = numbered 0 (take KEPT_GROUPS groups)

-- those of some groups; of no group there are none
abbrev pub AreCaptured : List NameValue → Type 0
AreCaptured rows = (groups : List (Option (List ℕ))) × (rows ≡ captured_rows groups)
