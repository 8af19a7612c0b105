-- Header fields, a line each (RFC 9112, 5).
use Rattle.std.specs.Prelude.{ℕ, ◌==◌, cond, List, [], ◌∷◌, Option, Some, None, option_and_then}
use Rattle.std.specs.List.{flat_map}
use Rattle.web_parts.specs.declared.headers.TheConstants.{LF, CR, COLON}
use Rattle.web_parts.specs.declared.row.NameValue.{NameValue}
use Rattle.web_parts.specs.Pieces.{pieces, before, behind, trimmed}

-- the line without one CR at its end
abbrev pub without_return : List ℕ → List ℕ
without_return [] = []
without_return (b ∷ []) = cond (b == CR) [] (b ∷ [])
without_return (b ∷ c ∷ line) = b ∷ without_return (c ∷ line)

-- a field has a name
abbrev pub named : List ℕ → List ℕ → Option NameValue
named [] value = None
named (b ∷ name) value = Some record { name = b ∷ name; value = value }

-- the field of a line with a colon and a name before it
abbrev pub header_of : List ℕ → Option NameValue
header_of line = option_and_then (λ value. named (trimmed (before COLON line)) (trimmed value)) (behind COLON line)

abbrev pub listed : {A : Type 0} → Option A → List A
listed None = []
listed (Some x) = x ∷ []

abbrev pub rows_of_line : List ℕ → List NameValue
rows_of_line line = listed (header_of (without_return line))

-- the fields of the lines between LF
abbrev pub header_rows : List ℕ → List NameValue
header_rows text = flat_map rows_of_line (pieces LF text)
