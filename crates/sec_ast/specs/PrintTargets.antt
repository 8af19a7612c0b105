-- Targets as they are written.
use Rattle.std.specs.Prelude.{ℕ, Bool, List, [], ◌++◌, codes, map, if◌then◌else◌}
use Rattle.std.specs.List.{join_with_byte}
use Rattle.sec_ast.specs.PrintTexts.{escaped}
use Rattle.sec_ast.specs.Variable.{variable_name}
use Rattle.sec_ast.specs.declared.target.Select.{Select}
use Rattle.sec_ast.specs.declared.target.Select.TheVariants as selects
use Rattle.sec_ast.specs.declared.target.Target.{Target}
use Rattle.sec_text.specs.declared.characters.TheConstants.{BAR, SLASH}

-- ! takes away, & counts
abbrev pub mark_text : Bool → Bool → List ℕ
mark_text exclude count = if exclude then codes "!" else (if count then codes "&" else [])

-- a name, or a pattern between slashes
abbrev pub select_text : Select → List ℕ
select_text selects.All = []
select_text (selects.Name name) = codes ":" ++ name
select_text (selects.Pattern pattern) = codes ":/" ++ escaped SLASH pattern ++ codes "/"

abbrev pub target_text : Target → List ℕ
target_text target = mark_text target.exclude target.count ++ variable_name target.var ++ select_text target.select

unfoldable pub targets_text : List Target → List ℕ
targets_text targets = join_with_byte BAR (map target_text targets)
