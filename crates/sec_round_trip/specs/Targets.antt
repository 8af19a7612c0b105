-- Targets that are read back from their text.
use Rattle.std.specs.Prelude.{◌≡◌, ◌==◌, ℕ, Bool, true, false, not, ◌&&◌, ◌||◌, List, [], ◌∷◌, Some}
use Rattle.std.specs.List.{AllByRecursion, list_any}
use Rattle.sec_ast.specs.Variable.{is_collection}
use Rattle.sec_ast.specs.declared.target.Select.{Select}
use Rattle.sec_ast.specs.declared.target.Select.TheVariants as selects
use Rattle.sec_ast.specs.declared.target.Target.{Target}
use Rattle.sec_ast.specs.declared.variable.Var.{Var}
use Rattle.sec_text.specs.Written.{ends_with_backslash}
use Rattle.sec_text.specs.declared.characters.TheConstants.{BAR, SINGLE_QUOTE, SLASH}
use Rattle.sec_parts.specs.Targets.{is_xml}
use Rattle.sec_parts.specs.Texts.{ends_open, trim_end}

abbrev pub is_empty : List ℕ → Bool
is_empty [] = true
is_empty (b ∷ name) = false

-- where a name is read as one: not a pattern between slashes, nor one in single quotes
abbrev pub is_unmarked : List ℕ → Bool
is_unmarked [] = false
is_unmarked (b ∷ name) = not (b == SLASH) && not (b == SINGLE_QUOTE)

-- a name of at least one byte that holds no bar, and ends neither with a blank nor with a backslash
pub record IsName (var : Var) (name : List ℕ) : Type 0 where
  pub collection : is_collection var ≡ true
  pub unmarked : (is_xml (Some var) || is_unmarked name) ≡ true
  pub bars : list_any (λ b. b == BAR) name ≡ false
  pub trimmed : trim_end name ≡ name
  pub some : is_empty name ≡ false
  pub ends : ends_open name ≡ false

-- a pattern that ends with no backslash; those of XML are names
pub record IsPattern (var : Var) (pattern : List ℕ) : Type 0 where
  pub collection : is_collection var ≡ true
  pub other : is_xml (Some var) ≡ false
  pub ends : ends_with_backslash pattern ≡ false

abbrev pub IsSelect : Var → Select → Type 0
IsSelect var selects.All = Unit {0}
IsSelect var (selects.Name name) = IsName var name
IsSelect var (selects.Pattern pattern) = IsPattern var pattern

-- one that takes away does not count
abbrev pub IsTarget : Target → Type 0
IsTarget target = ((target.exclude && target.count) ≡ false) × IsSelect target.var target.select

abbrev pub AreTargets : List Target → Type 0
AreTargets [] = ⊥
AreTargets (target ∷ targets) = AllByRecursion IsTarget (target ∷ targets)
