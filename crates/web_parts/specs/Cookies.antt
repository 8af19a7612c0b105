-- Cookies of header fields (RFC 6265, 4.2.1).
use Rattle.std.specs.Prelude.{ℕ, Bool, cond, List, [], ◌∷◌, map, codes, unwrap_or, bytes_eq}
use Rattle.std.specs.Char.{to_ascii_lowercase}
use Rattle.std.specs.List.{flat_map}
use Rattle.web_parts.specs.declared.cookies.TheConstants.{SEMICOLON, EQUALS}
use Rattle.web_parts.specs.declared.row.NameValue.{NameValue}
use Rattle.web_parts.specs.Pieces.{pieces, before, behind, trimmed}

-- whether this is `cookie`, without regard to case
abbrev pub is_cookie : List ℕ → Bool
is_cookie name = bytes_eq (map to_ascii_lowercase name) (codes "cookie")

-- no cookie of an empty piece, and else one that its first `=` parts
abbrev pub rows_of_piece : List ℕ → List NameValue
rows_of_piece [] = []
rows_of_piece (b ∷ piece) =
    record { name = before EQUALS (b ∷ piece); value = unwrap_or (behind EQUALS (b ∷ piece)) [] } ∷ []

-- the cookies of a value, which `;` parts
abbrev pub cookies_of : List ℕ → List NameValue
cookies_of value = flat_map (λ piece. rows_of_piece (trimmed piece)) (pieces SEMICOLON value)

abbrev pub rows_of_header : NameValue → List NameValue
rows_of_header header = cond (is_cookie header.name) (cookies_of header.value) []

abbrev pub cookie_rows : List NameValue → List NameValue
cookie_rows headers = flat_map rows_of_header headers
