-- The parts of a macro.
use Rattle.std.specs.Prelude.{◌≡◌, ℕ, suc, ◌+◌, ◌-◌, ◌==◌, Bool, false, ◌&&◌, nat_lt, List, [], ◌∷◌, length, take, drop, Option, Some, None, Result, Ok, Err, if◌then◌else◌}
use Rattle.std.specs.List.{list_any}
use Rattle.sec_ast.specs.Variable.{is_collection, variable_named}
use Rattle.sec_ast.specs.declared.Part.{Part}
use Rattle.sec_ast.specs.declared.Part.TheVariants as parts
use Rattle.sec_ast.specs.declared.Var.{Var}
use Rattle.sec_text.specs.Readers.{repeat}
use Rattle.sec_text.specs.declared.characters.TheConstants.{CLOSING_BRACE, DOT, OPENING_BRACE, PERCENT}
use Rattle.sec_parts.specs.declared.faults.Bad.{Bad}
use Rattle.sec_parts.specs.declared.macros.TheConstants.{OPENING_LENGTH}
use Rattle.sec_parts.specs.Results.{bad, refused}
use Rattle.sec_parts.specs.Texts.{to_byte}
use Rattle.sec_parts.specs.Variables.{is_refused_variable}

-- ---- where references are

abbrev pub is_close : ℕ → Bool
is_close b = b == CLOSING_BRACE

abbrev pub opens : List ℕ → Bool
opens [] = false
opens (a ∷ []) = false
opens (a ∷ b ∷ rest) = (a == PERCENT) && (b == OPENING_BRACE)

-- %{ and later a }
abbrev pub begins_reference : List ℕ → Bool
begins_reference text = opens text && list_any is_close text

-- how many bytes of text stand before the next reference
abbrev pub text_len : List ℕ → ℕ
text_len [] = 0
text_len (b ∷ rest) = if begins_reference (b ∷ rest) then 0 else 1 + text_len rest

-- ---- what a reference says; whole: from %{ to }

-- a key has at least one byte, and only a collection takes one
abbrev pub keyed : List ℕ → Var → List ℕ → Result Part Bad
keyed whole var [] = Ok (parts.Ref var None)
keyed whole var (dot ∷ []) = bad whole
keyed whole var (dot ∷ b ∷ key) = if is_collection var then Ok (parts.Ref var (Some (b ∷ key))) else bad whole

abbrev pub of_variable : List ℕ → Option Var → List ℕ → Result Part Bad
of_variable whole None key = bad whole
of_variable whole (Some var) key = keyed whole var key

-- a name up to the first dot, and what begins there
abbrev pub reference : List ℕ → List ℕ → Result Part Bad
reference whole inside =
    let name = take (to_byte DOT inside) inside in
    if is_refused_variable name then refused whole
    else of_variable whole (variable_named name) (drop (to_byte DOT inside) inside)

-- ---- the parts one after the other

abbrev pub with_rest : List ℕ → Result Part Bad → Result (Option (Part × List ℕ)) Bad
with_rest rest (Ok part) = Ok (Some (part, rest))
with_rest rest (Err fault) = Err fault

-- the reference at the front, up to and including }
abbrev pub reference_at : List ℕ → Result (Option (Part × List ℕ)) Bad
reference_at text =
    let close = to_byte CLOSING_BRACE text in
    let inside = take (close - OPENING_LENGTH) (drop OPENING_LENGTH text) in
    with_rest (drop (close + 1) text) (reference (take (close + 1) text) inside)

-- the part that a text begins with
unfoldable pub part_at : List ℕ → Result (Option (Part × List ℕ)) Bad
part_at [] = Ok None
part_at (b ∷ rest) =
    if begins_reference (b ∷ rest) then reference_at (b ∷ rest)
    else Ok (Some (parts.Text (take (text_len (b ∷ rest)) (b ∷ rest)), drop (text_len (b ∷ rest)) (b ∷ rest)))

unfoldable pub macro_of : List ℕ → Result (List Part) Bad
macro_of text = repeat part_at (suc (length text)) text

-- (for private contracts) behind the last } stand so many bytes, whatever front of the text is gone
pub record EndsAfterLast (tail : ℕ) (text : List ℕ) : Type 0 where
  pub at : (n : ℕ) → list_any is_close (drop n text) ≡ nat_lt tail (length (drop n text))
