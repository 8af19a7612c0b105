-- Rows, and how they are found by their names.
use Rattle.std.specs.Prelude.{ℕ, ◌+◌, Bool, List, [], ◌∷◌, map, find, length, Option, Some, None}
use Rattle.std.specs.List.{sum_by}
use Rattle.std.specs.Str.{str_eq_ignore_ascii_case}
use Rattle.web_parts.specs.declared.row.NameValue.{NameValue}

abbrev pub row : List ℕ → List ℕ → NameValue
row name value = record { name = name; value = value }

-- one row without a name
abbrev pub single : List ℕ → List NameValue
single value = row [] value ∷ []

-- the same, where there is a value
abbrev pub optional : Option (List ℕ) → List NameValue
optional None = []
optional (Some value) = single value

-- for each row one that has its name, as its value too
abbrev pub names_of : List NameValue → List NameValue
names_of rows = map (λ r. row r.name r.name) rows

-- without regard to the case of ASCII letters
abbrev pub is_named : List ℕ → NameValue → Bool
is_named name r = str_eq_ignore_ascii_case name r.name

abbrev pub value_of : Option NameValue → List ℕ
value_of None = []
value_of (Some r) = r.value

-- the value of the first row of that name, empty where there is none
abbrev pub value_named : List ℕ → List NameValue → List ℕ
value_named name rows = value_of (find (is_named name) rows)

-- how many bytes the names and values have together
abbrev pub size_of : List NameValue → ℕ
size_of rows = sum_by (λ r. length r.name + length r.value) rows
