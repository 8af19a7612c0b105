-- Macros as they are written.
use Rattle.std.specs.Prelude.{ℕ, List, [], ◌∷◌, ◌++◌, codes, Option, Some, None}
use Rattle.std.specs.List.{flat_map}
use Rattle.sec_ast.specs.Variable.{variable_name}
use Rattle.sec_ast.specs.declared.macros.Part.{Part}
use Rattle.sec_ast.specs.declared.macros.Part.TheVariants as parts
use Rattle.sec_text.specs.declared.characters.TheConstants.{DOT}

abbrev pub key_text : Option (List ℕ) → List ℕ
key_text None = []
key_text (Some key) = DOT ∷ key

-- text as it is, a reference as %{NAME} or %{NAME.KEY}
abbrev pub part_text : Part → List ℕ
part_text (parts.Text text) = text
part_text (parts.Ref var key) = codes "%{" ++ variable_name var ++ key_text key ++ codes "}"

unfoldable pub macro_text : List Part → List ℕ
macro_text macro = flat_map part_text macro
