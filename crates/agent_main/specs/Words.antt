-- What a command does with the input, and the texts that answer words.
use Rattle.std.specs.Prelude.{Bool, true, false}
use Rattle.command_line.specs.declared.command.Command.{Command}
use Rattle.command_line.specs.declared.command.Command.TheVariants.{Once, Other, Replay, Serve}

-- whether the words are none of these commands. `serve` is another's
abbrev pub is_other : Command → Bool
is_other Other = true
is_other (Serve name) = true
is_other _ = false

-- whether it is the command that serves doors
abbrev pub serves_doors : Command → Bool
serves_doors (Serve name) = true
serves_doors _ = false

-- whether a command takes anything of the input
abbrev pub takes_input : Command → Bool
takes_input (Once name) = true
takes_input (Replay plain name) = true
takes_input _ = false

-- whether a command serves a connection
abbrev pub serves_connection : Command → Bool
serves_connection (Once name) = true
serves_connection _ = false

-- whether a command may refuse what it took of the input
abbrev pub refuses_input : Command → Bool
refuses_input (Replay plain name) = true
refuses_input _ = false
