-- Macros that are read back from their text.
use Rattle.std.specs.Prelude.{◌≡◌, ℕ, Bool, true, false, not, ◌&&◌, List, [], ◌∷◌, ◌++◌, Option, Some, None}
use Rattle.std.specs.List.{list_any}
use Rattle.sec_ast.specs.PrintMacros.{macro_text}
use Rattle.sec_ast.specs.Variable.{is_collection}
use Rattle.sec_ast.specs.declared.macros.Part.{Part}
use Rattle.sec_ast.specs.declared.macros.Part.TheVariants as parts
use Rattle.sec_ast.specs.declared.variable.Var.{Var}
use Rattle.sec_parts.specs.Macros.{begins_reference, is_close}

-- no reference begins in a text behind which more stands
abbrev pub begins_none : List ℕ → List ℕ → Bool
begins_none [] more = true
begins_none (b ∷ text) more = not (begins_reference (b ∷ (text ++ more))) && begins_none text more

-- only a collection has a key, of at least one byte and without }
abbrev pub is_key : Var → Option (List ℕ) → Bool
is_key var None = true
is_key var (Some []) = false
is_key var (Some (b ∷ key)) = is_collection var && not (list_any is_close (b ∷ key))

abbrev pub begins_with_text : List Part → Bool
begins_with_text [] = false
begins_with_text (parts.Text text ∷ macro) = true
begins_with_text (parts.Ref var key ∷ macro) = false

-- each text has at least one byte, no reference begins in it, and no other text stands behind it
abbrev pub IsMacro : List Part → Type 0
IsMacro [] = Unit {0}
IsMacro (parts.Text [] ∷ macro) = ⊥
IsMacro (parts.Text (b ∷ text) ∷ macro) =
    (begins_none (b ∷ text) (macro_text macro) ≡ true) × (begins_with_text macro ≡ false) × IsMacro macro
IsMacro (parts.Ref var key ∷ macro) = (is_key var key ≡ true) × IsMacro macro
