-- What a part of a judgement, as a function of the state, leaves as it is.
use Rattle.std.specs.Prelude.{◌≡◌, List}
use Rattle.sec_ast.specs.declared.verdict.LogLine.{LogLine}
use Rattle.sec_meaning.specs.declared.state.PlainState.{PlainState}
use Rattle.sec_meaning.specs.Phase.{Run}
use Rattle.tx_core.specs.Lines.{behind_lines, run_behind}

-- it adds its lines behind those that are there, and does the same else
abbrev pub AddsBehind : (PlainState → Run) → Type 0
AddsBehind part = (front : List LogLine) (s : PlainState) → part (behind_lines front s) ≡ run_behind front (part s)

abbrev pub KeepsRequest : (PlainState → Run) → Type 0
KeepsRequest part = (s : PlainState) → (part s).state.request ≡ s.request
