-- The commands of a script, or its first bad line.
use Rattle.std.specs.Prelude.{◌≡◌, ℕ, ◌+◌, ◌==◌, Bool, true, not, List, [], ◌∷◌, ◌++◌, length, Option, Some, None, Result, Ok, Err, cond}
use Rattle.std.specs.List.{flat_map, list_any}
use Rattle.web_parts.specs.Pieces.{pieces}
use Rattle.replay_text.specs.Commands.{command_of}
use Rattle.replay_text.specs.declared.command.Command.{Command}
use Rattle.replay_text.specs.declared.command.Command.TheVariants as commands
use Rattle.replay_text.specs.declared.script.TheConstants.{LINE_FEED}
use Rattle.replay_text.specs.declared.script.ScriptFault.{ScriptFault}
use Rattle.replay_text.specs.declared.script.ScriptFault.TheVariants as faults

-- a line feed ends each line, and what stands behind the last one is a line where it is not empty
abbrev pub without_empty_end : List (List ℕ) → List (List ℕ)
without_empty_end [] = []
without_empty_end ([] ∷ []) = []
without_empty_end (line ∷ lines) = line ∷ without_empty_end lines

abbrev pub lines_of : List ℕ → List (List ℕ)
lines_of text = without_empty_end (pieces LINE_FEED text)

-- the connection that a command opens
abbrev pub opens : Command → List ℕ
opens (commands.Open conn) = conn ∷ []
opens other_command = []

abbrev pub opened_by : List Command → List ℕ
opened_by past = flat_map opens past

abbrev pub is_open : List Command → ℕ → Bool
is_open past conn = list_any (λ c. c == conn) (opened_by past)

-- a connection is opened once, and before the other commands name it
abbrev pub is_in_order : List Command → Command → Bool
is_in_order past (commands.Open conn) = not (is_open past conn)
is_in_order past (commands.Feed conn bytes) = is_open past conn
is_in_order past (commands.End conn) = is_open past conn
is_in_order past (commands.Act conn) = is_open past conn
is_in_order past (commands.Tick by) = true
is_in_order past (commands.Expire shard) = true
is_in_order past commands.Reload = true
is_in_order past commands.Stats = true

abbrev pub in_order : List Command → Option Command → Option Command
in_order past None = None
in_order past (Some command) = cond (is_in_order past command) (Some command) None

-- the command of a line that stands behind these commands
abbrev pub next : List Command → List ℕ → Option Command
next past line = in_order past (command_of line)

-- the commands go on with this one, or the line is bad
abbrev pub with_next : (List Command → Result (List Command) ℕ) → List Command → Option Command
    → Result (List Command) ℕ
with_next more past None = Err (length past + 1)
with_next more past (Some command) = more (past ++ command ∷ [])

-- these commands and those of the lines behind them, or the number of the first bad line
abbrev pub commands_from : List Command → List (List ℕ) → Result (List Command) ℕ
commands_from past [] = Ok past
commands_from past (line ∷ lines) = with_next (λ now. commands_from now lines) past (next past line)

abbrev pub script : List ℕ → Result (List Command) ℕ
script text = commands_from [] (lines_of text)

-- these are the commands, or this is the first bad line, or there was no memory
abbrev pub Reads : Result (List Command) ScriptFault → Result (List Command) ℕ → Type 0
Reads (Ok commands_read) wanted = wanted ≡ Ok commands_read
Reads (Err (faults.Bad line)) wanted = wanted ≡ Err line
Reads (Err faults.NoMemory) wanted = Unit {0}
