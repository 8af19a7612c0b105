-- The arguments of a query or of a form body (URL Standard, 5.1).
use Rattle.std.specs.Prelude.{ℕ, List, map}
use Rattle.form_urlencoded.specs.Form.{decode, raw_pairs}
use Rattle.web_parts.specs.declared.row.NameValue.{NameValue}

-- name and value of a pair, with `+` as a space and escapes decoded
abbrev pub argument_of : List ℕ × List ℕ → NameValue
argument_of pair = record { name = decode pair.0; value = decode pair.1 }

-- the arguments of the pairs between `&`
abbrev pub argument_rows : List ℕ → List NameValue
argument_rows text = map argument_of (raw_pairs text)
