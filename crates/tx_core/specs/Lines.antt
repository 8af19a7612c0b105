-- Lines that were handed out, or that stand in front.
use Rattle.std.specs.Prelude.{List, [], ◌++◌}
use Rattle.sec_ast.specs.declared.verdict.LogLine.{LogLine}
use Rattle.sec_meaning.specs.declared.state.PlainState.{PlainState}
use Rattle.sec_meaning.specs.Phase.{Run}

abbrev pub without_lines : PlainState → PlainState
without_lines s = record s { lines = [] }

abbrev pub behind_lines : List LogLine → PlainState → PlainState
behind_lines front s = record s { lines = front ++ s.lines }

abbrev pub run_behind : List LogLine → Run → Run
run_behind front r = record r { state = behind_lines front r.state }
