-- How a target's selector tests names by a pattern.
use Rattle.std.specs.Prelude.{◌≡◌, ℕ, Bool, List, ◌++◌, map, length, drop, codes, is_some, Option, Some, None}
use Rattle.sec_ast.specs.declared.operator.Op.{Op}
use Rattle.sec_ast.specs.declared.operator.OpKind.TheVariants.{Rx}
use Rattle.sec_ast.specs.declared.target.Select.{Select}
use Rattle.sec_ast.specs.declared.target.Select.TheVariants as selects
use Rattle.sec_ast.specs.declared.target.Target.{Target}
use Rattle.sec_ops.specs.Hits.{pattern_hit, source_of}

-- the flag by which a pattern is read without regard to case
abbrev pub any_case : List ℕ
any_case = codes "(?i)"

-- a selector's pattern is read so
abbrev pub selector_source : List ℕ → List ℕ
selector_source pattern = any_case ++ pattern

-- whether the pattern has a match in a name
abbrev pub is_matched : List ℕ → List ℕ → Bool
is_matched pattern name = is_some (pattern_hit (selector_source pattern) name)

-- the pattern by which a target selects, where it does
abbrev pub pattern_of : Select → Option (List ℕ)
pattern_of selects.All = None
pattern_of (selects.Name name) = None
pattern_of (selects.Pattern pattern) = Some pattern

abbrev pub patterns_of : List Target → List (Option (List ℕ))
patterns_of targets = map (λ t. pattern_of t.select) targets

-- the pattern of a selector's operator follows the flag
abbrev pub selector_pattern : Op → List ℕ
selector_pattern op = drop (length any_case) (source_of op.text)

-- `@rx` of some selector's pattern
pub record IsSelector (op : Op) : Type 0 where
  pub kind : op.kind ≡ Rx
  pub source : source_of op.text ≡ selector_source (selector_pattern op)
