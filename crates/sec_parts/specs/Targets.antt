-- The targets of a rule.
use Rattle.std.specs.Prelude.{ℕ, suc, ◌-◌, ◌==◌, Bool, true, false, List, [], ◌∷◌, length, take, drop, slice_index, Option, Some, None, Result, Ok, Err, if◌then◌else◌}
use Rattle.std.specs.List.{list_all, list_any}
use Rattle.sec_ast.specs.Variable.{is_collection, variable_named}
use Rattle.sec_ast.specs.declared.Var.{Var}
use Rattle.sec_ast.specs.declared.Var.TheVariants as vars
use Rattle.sec_ast.specs.declared.Select.{Select}
use Rattle.sec_ast.specs.declared.Select.TheVariants as selects
use Rattle.sec_ast.specs.declared.Target.{Target}
use Rattle.sec_text.specs.Quotes.{is_blank, quoted}
use Rattle.sec_text.specs.Readers.{repeat}
use Rattle.sec_text.specs.declared.characters.TheConstants.{AMPERSAND, BAR, COLON, EXCLAMATION_MARK, SINGLE_QUOTE, SLASH}
use Rattle.sec_parts.specs.declared.faults.Bad.{Bad}
use Rattle.sec_parts.specs.declared.targets.Marks.{Marks}
use Rattle.sec_parts.specs.Results.{◌>>=◌, bad, refused}
use Rattle.sec_parts.specs.Texts.{behind_first, ends_open, piece_before, skip_blanks, to_byte, to_either, trim, trim_end}
use Rattle.sec_parts.specs.Variables.{is_refused_variable}

-- ---- selectors: what is selected, or None where the selector is outside its form, and what is left behind it

abbrev pub Chosen : Type 0
Chosen = Option Select × List ℕ

-- a name of at least one byte that does not end with \
abbrev pub name_select : List ℕ → Option Select
name_select [] = None
name_select (b ∷ name) = if ends_open (b ∷ name) then None else Some (selects.Name (b ∷ name))

-- a name runs to the next |
abbrev pub by_name : List ℕ → Chosen
by_name here = (name_select (trim_end (take (to_byte BAR here) here)), drop (to_byte BAR here) here)

-- what stands up to the next | is blank; else nothing is selected
abbrev pub where_blank : Option Select → List ℕ → Chosen
where_blank select after =
    (if list_all is_blank (take (to_byte BAR after) after) then select else None, drop (to_byte BAR after) after)

-- behind a pattern come blanks and then | or the end; one that does not close runs to the end
abbrev pub by_pattern : Option (List ℕ × List ℕ) → Chosen
by_pattern None = (None, [])
by_pattern (Some x) = where_blank (Some (selects.Pattern x.0)) x.1

-- a name in single quotes has no | and does not end with a blank
abbrev pub quoted_name : List ℕ → Option Select
quoted_name text =
    if list_any (λ b. b == BAR) text then None
    else (if is_blank (slice_index text (length text - 1)) then None else name_select text)

-- a pattern in single quotes ends before the second quote, but for blanks
abbrev pub quoted_pattern : Option (List ℕ × List ℕ) → List ℕ → Chosen
quoted_pattern None after = (None, [])
quoted_pattern (Some x) after = where_blank (if list_all is_blank x.1 then Some (selects.Pattern x.0) else None) after

abbrev pub in_quotes : List ℕ → List ℕ → Chosen
in_quotes [] after = where_blank (quoted_name []) after
in_quotes (b ∷ text) after =
    if b == SLASH then quoted_pattern (quoted SLASH text) after else where_blank (quoted_name (b ∷ text)) after

-- up to the second quote; where none comes, the piece runs to the end
abbrev pub up_to_quote : List ℕ → List ℕ → Chosen
up_to_quote text [] = (None, [])
up_to_quote text (quote ∷ after) = in_quotes text after

abbrev pub by_quote : List ℕ → Chosen
by_quote here = up_to_quote (take (to_byte SINGLE_QUOTE here) here) (drop (to_byte SINGLE_QUOTE here) here)

abbrev pub selector : List ℕ → Chosen
selector [] = by_name []
selector (b ∷ rest) =
    if b == SLASH then by_pattern (quoted SLASH rest)
    else (if b == SINGLE_QUOTE then by_quote rest else by_name (b ∷ rest))

-- the selector behind a variable's colon: for XML it is a name whatever it begins with
abbrev pub is_xml : Option Var → Bool
is_xml (Some vars.Xml) = true
is_xml other = false

abbrev pub selector_of : Option Var → List ℕ → Chosen
selector_of var here = if is_xml var then by_name here else selector here

-- ---- one piece

-- only a collection takes a selector
abbrev pub fits : Select → Var → Bool
fits selects.All var = true
fits (selects.Name name) var = is_collection var
fits (selects.Pattern pattern) var = is_collection var

abbrev pub selected : List ℕ → Marks → Option Select → Option Var → Result Target Bad
selected piece marks select None = bad piece
selected piece marks None (Some var) = bad piece
selected piece marks (Some select) (Some var) =
    if fits select var then Ok (record { count = marks.count; exclude = marks.exclude; var = var; select = select })
    else bad piece

abbrev pub Read : Type 0
Read = Result (Target × Option (List ℕ)) Bad

-- a name that is refused comes before all else, and then the exact name counts
abbrev pub found : Marks → List ℕ → List ℕ → Option Var → Chosen → Read
found marks text name var chosen =
    if is_refused_variable (trim name) then refused (trim name)
    else (selected (piece_before text chosen.1) marks chosen.0 var >>= λ target. Ok (target, behind_first chosen.1))

-- behind the name stands a colon, a bar or the end; blanks before a colon are part of the name
abbrev pub behind_name : Marks → List ℕ → List ℕ → List ℕ → Read
behind_name marks text name [] = found marks text name (variable_named (trim_end name)) (Some selects.All, [])
behind_name marks text name (b ∷ rest) =
    if b == COLON then found marks text name (variable_named name) (selector_of (variable_named name) rest)
    else found marks text name (variable_named (trim_end name)) (Some selects.All, b ∷ rest)

abbrev pub unmarked : Marks → List ℕ → List ℕ → Read
unmarked marks text here =
    behind_name marks text (take (to_either BAR COLON here) here) (drop (to_either BAR COLON here) here)

-- ! takes away, & counts
abbrev pub marked : List ℕ → List ℕ → Read
marked text [] = unmarked (record { count = false; exclude = false }) text []
marked text (b ∷ rest) =
    if b == EXCLAMATION_MARK then unmarked (record { count = false; exclude = true }) text rest
    else (if b == AMPERSAND then unmarked (record { count = true; exclude = false }) text rest
    else unmarked (record { count = false; exclude = false }) text (b ∷ rest))

-- the piece that a text begins with, and what stands behind its bar
unfoldable pub target_at : List ℕ → Read
target_at text = marked text (skip_blanks text)

-- ---- the pieces one after the other

abbrev pub one_target : Read → Result (Option (Target × Option (List ℕ))) Bad
one_target (Ok x) = Ok (Some x)
one_target (Err fault) = Err fault

abbrev pub next_target : Option (List ℕ) → Result (Option (Target × Option (List ℕ))) Bad
next_target None = Ok None
next_target (Some text) = one_target (target_at text)

unfoldable pub targets_of : List ℕ → Result (List Target) Bad
targets_of text = repeat next_target (suc (suc (length text))) (Some text)
