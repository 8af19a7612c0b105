-- How the patterns of operators are read from a line on: `SecPatternMode`.
use Rattle.std.specs.Prelude.{ℕ, codes, List, Option, Some, None, if◌then◌else◌}
use Rattle.std.specs.Str.{str_eq_ignore_ascii_case}
use Rattle.sec_ast.specs.declared.OpKind.{OpKind}
use Rattle.sec_ast.specs.declared.OpKind.TheVariants as kinds
use Rattle.sec_read.specs.declared.modes.PatternMode.{PatternMode}
use Rattle.sec_read.specs.declared.modes.PatternMode.TheVariants as modes

-- the mode of a name, without regard to case
unfoldable pub mode_named : List ℕ → Option PatternMode
mode_named word =
    if str_eq_ignore_ascii_case word (codes "Unicode") then Some modes.Unicode
    else (if str_eq_ignore_ascii_case word (codes "Bytes") then Some modes.Bytes else None)

-- by bytes rx is rxBytes, and every other kind stays
abbrev pub kind_in : PatternMode → OpKind → OpKind
kind_in modes.Unicode kind = kind
kind_in modes.Bytes kinds.Rx = kinds.RxBytes
kind_in modes.Bytes other = other
