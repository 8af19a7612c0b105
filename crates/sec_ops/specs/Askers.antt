-- What a kept search is of.
use Rattle.std.specs.Prelude.{Option, None, Some, ⊤}
use Rattle.std.specs.Global.{Box}
use Rattle.sec_ast.specs.declared.operator.Op as ops
use Rattle.sec_ops.specs.declared.searches.Search.{Search}
use Rattle.sec_ops.specs.declared.built.Test.TheVariants.{Pattern}
use Rattle.sec_ops.specs.Hits.{IsBuiltFrom}

-- its pattern finds in each text of bytes what the operator finds
abbrev pub IsSearchOf : Option (Box Search) → ops.Op → Type 0
IsSearchOf None op = ⊤
IsSearchOf (Some search) op = IsBuiltFrom (Pattern search.value.pattern.now) op
