-- The values that a rule looks at: a filter of the rows of a transaction.
use Rattle.std.specs.Prelude.{ℕ, Bool, true, false, ◌&&◌, ◌||◌, not, if◌then◌else◌, List, [], ◌∷◌, ◌++◌, map, filter, length, decimal, Option, Some, None}
use Rattle.std.specs.List.{flat_map, list_any}
use Rattle.std.specs.Str.{bytes_eq, str_eq_ignore_ascii_case}
use Rattle.sec_ast.specs.declared.variable.Var.{Var}
use Rattle.sec_ast.specs.declared.target.Select.{Select}
use Rattle.sec_ast.specs.declared.target.Select.TheVariants as selects
use Rattle.sec_ast.specs.declared.target.Target.{Target}
use Rattle.sec_ast.specs.Variable.{variable_name}
use Rattle.web_parts.specs.declared.row.NameValue.{NameValue}
use Rattle.sec_collect.specs.declared.marks.TheConstants.{AMPERSAND, COLON}
use Rattle.sec_collect.specs.declared.row_ref.RowRef.{RowRef}
use Rattle.sec_collect.specs.TransactionView.{TransactionView}
use Rattle.sec_collect.specs.Rows.{rows_of}

-- a pattern selects by its meaning, and one that is not there selects nothing
abbrev pub is_matched : {M : Type 0} → (M → List ℕ → Bool) → Option M → List ℕ → Bool
is_matched meaning None name = false
is_matched meaning (Some pattern) name = meaning pattern name

abbrev pub is_selected : {M : Type 0} → (M → List ℕ → Bool) → Select → Option M → List ℕ → Bool
is_selected meaning selects.All pattern name = true
is_selected meaning (selects.Name wanted) pattern name = str_eq_ignore_ascii_case wanted name
is_selected meaning (selects.Pattern text) pattern name = is_matched meaning pattern name

abbrev pub same_variable : Var → Var → Bool
same_variable a b = bytes_eq (variable_name a) (variable_name b)

-- a target stands here beside its pattern. An excluding one takes away what it selects of its variable
abbrev pub excludes : {M : Type 0} → (M → List ℕ → Bool) → Var → List ℕ → Target × Option M → Bool
excludes meaning var name t = t.0.exclude && (same_variable t.0.var var && is_selected meaning t.0.select t.1 name)

-- a removed target takes away what it selects by other means than a pattern
abbrev pub names : Select → List ℕ → Bool
names selects.All name = true
names (selects.Name wanted) name = str_eq_ignore_ascii_case wanted name
names (selects.Pattern text) name = false

abbrev pub removes : Var → List ℕ → Target → Bool
removes var name t = same_variable t.var var && names t.select name

-- whether a target selects rows of that name, and no other target takes them away
abbrev pub keeps : {M : Type 0} → (M → List ℕ → Bool) → List (Target × Option M) → List Target
    → Target × Option M → List ℕ → Bool
keeps meaning targets removed t name =
    is_selected meaning t.0.select t.1 name
    && not (list_any (removes t.0.var name) removed || list_any (excludes meaning t.0.var name) targets)

-- the rows that a target leaves
abbrev pub left : {M : Type 0} → (M → List ℕ → Bool) → List (Target × Option M) → List Target → TransactionView
    → Target × Option M → List NameValue
left meaning targets removed s t = filter (λ r. keeps meaning targets removed t r.name) (rows_of t.0.var s)

abbrev pub value_row : Var → NameValue → RowRef
value_row var r = record { var = var; name = r.name; value = r.value; counted = false }

-- the name of the selector, or its pattern
abbrev pub selector_text : Select → List ℕ
selector_text selects.All = []
selector_text (selects.Name name) = name
selector_text (selects.Pattern text) = text

abbrev pub count_row : Target → ℕ → RowRef
count_row t count = record { var = t.var; name = selector_text t.select; value = decimal count; counted = true }

-- none for an excluding target, the number of its rows for a counting one, and for every other its rows
abbrev pub values_of : {M : Type 0} → (M → List ℕ → Bool) → List (Target × Option M) → List Target → TransactionView
    → Target × Option M → List RowRef
values_of meaning targets removed s t =
    if t.0.exclude then [] else
    if t.0.count then count_row t.0 (length (left meaning targets removed s t)) ∷ [] else
    map (value_row t.0.var) (left meaning targets removed s t)

abbrev pub selection : {M : Type 0} → (M → List ℕ → Bool) → List (Target × Option M) → List Target → TransactionView
    → List RowRef
selection meaning targets removed s = flat_map (values_of meaning targets removed s) targets

-- a variable, and a name within it
abbrev pub within : List ℕ → List ℕ → List ℕ
within variable [] = variable
within variable (b ∷ name) = variable ++ COLON ∷ b ∷ name

-- after `&` where it is counted
abbrev pub full_name : RowRef → List ℕ
full_name r = within (if r.counted then AMPERSAND ∷ variable_name r.var else variable_name r.var) r.name
