-- Macros with values in the places of their references.
use Rattle.std.specs.Prelude.{ℕ, List, take, find, Option, Some, None, Bool, true}
use Rattle.std.specs.List.{flat_map}
use Rattle.sec_ast.specs.declared.macros.Part.{Part}
use Rattle.sec_ast.specs.declared.macros.Part.TheVariants as parts
use Rattle.web_parts.specs.declared.row.NameValue.{NameValue}
use Rattle.sec_collect.specs.declared.expansion.TheConstants.{EXPANSION_LIMIT}
use Rattle.sec_collect.specs.Row.{is_named, value_of}
use Rattle.sec_collect.specs.TransactionView.{TransactionView}
use Rattle.sec_collect.specs.Rows.{rows_of}

abbrev pub is_wanted : Option (List ℕ) → NameValue → Bool
is_wanted None r = true
is_wanted (Some key) r = is_named key r

-- the value of the first row, with a key of the first of that name; empty where there is none
abbrev pub first_value : Option (List ℕ) → List NameValue → List ℕ
first_value key rows = value_of (find (is_wanted key) rows)

abbrev pub part_text : TransactionView → Part → List ℕ
part_text s (parts.Text text) = text
part_text s (parts.Ref var key) = first_value key (rows_of var s)

-- the parts one after the other, cut at the limit
abbrev pub expansion : TransactionView → List Part → List ℕ
expansion s text = take EXPANSION_LIMIT (flat_map (part_text s) text)
