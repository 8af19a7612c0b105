-- The pieces of a list of actions.
use Rattle.std.specs.Prelude.{ℕ, ◌==◌, List, [], ◌∷◌, take, drop, Option, Some, None, Result, Ok, if◌then◌else◌}
use Rattle.std.specs.List.{list_all}
use Rattle.sec_text.specs.Quotes.{is_blank, quoted}
use Rattle.sec_text.specs.declared.characters.TheConstants.{COLON, COMMA, SINGLE_QUOTE}
use Rattle.sec_parts.specs.declared.faults.Bad.{Bad}
use Rattle.sec_parts.specs.declared.pieces.Piece.{Piece}
use Rattle.sec_parts.specs.Results.{bad, unclosed}
use Rattle.sec_parts.specs.Texts.{behind_first, ends_open, piece_before, skip_blanks, to_byte, to_either, trim, trim_end}

abbrev pub Read : Type 0
Read = Result (Piece × Option (List ℕ)) Bad

-- the piece that ends before rest, with this name and value
abbrev pub ended : List ℕ → List ℕ → Option (List ℕ) → List ℕ → Read
ended text name value rest =
    Ok (record { name = trim name; value = value; text = piece_before text rest }, behind_first rest)

-- behind a closing quote come blanks and then a comma or the end
abbrev pub closed : List ℕ → List ℕ → Option (List ℕ × List ℕ) → Read
closed text name None = unclosed (trim text)
closed text name (Some x) =
    let rest = drop (to_byte COMMA x.1) x.1 in
    if list_all is_blank (take (to_byte COMMA x.1) x.1) then ended text name (Some x.0) rest
    else bad (piece_before text rest)

-- a plain value does not end with \
abbrev pub plain : List ℕ → List ℕ → List ℕ → Read
plain text name here =
    let value = trim_end (take (to_byte COMMA here) here) in
    let rest = drop (to_byte COMMA here) here in
    if ends_open value then bad (piece_before text rest) else ended text name (Some value) rest

-- a value, behind blanks, is in single quotes or plain
abbrev pub valued : List ℕ → List ℕ → List ℕ → Read
valued text name [] = plain text name []
valued text name (b ∷ rest) =
    if b == SINGLE_QUOTE then closed text name (quoted SINGLE_QUOTE rest) else plain text name (b ∷ rest)

-- behind the name stands a colon, a comma or the end
abbrev pub behind_name : List ℕ → List ℕ → List ℕ → Read
behind_name text name [] = ended text name None []
behind_name text name (b ∷ rest) =
    if b == COLON then valued text name (skip_blanks rest) else ended text name None (b ∷ rest)

-- the piece that a text begins with, and what stands behind its comma
unfoldable pub piece_at : List ℕ → Read
piece_at text = behind_name text (take (to_either COMMA COLON text) text) (drop (to_either COMMA COLON text) text)
