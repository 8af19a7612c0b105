-- The script of a seed.
use Rattle.std.specs.Prelude.{ℕ, List, [], ◌∷◌, ◌++◌}
use Rattle.std.specs.List.{flat_map, range_with_len}
use Rattle.replay_text.specs.declared.command.Command.{Command}
use Rattle.replay_text.specs.declared.command.Command.TheVariants as commands
use Rattle.workload.specs.Draws.{turn_of}
use Rattle.workload.specs.Messages.{hello_bytes}
use Rattle.workload.specs.Turns.{turn_commands}
use Rattle.workload.specs.declared.commands.TheConstants.{CONNECTIONS}

-- a connection is opened, HAProxy says hello, and the agent answers
abbrev pub opening : ℕ → List Command
opening conn = commands.Open conn ∷ commands.Feed conn hello_bytes ∷ commands.Act conn ∷ []

-- all connections, from 0
unfoldable pub openings : List Command
openings = flat_map opening (range_with_len 0 CONNECTIONS)

-- these, and so many turns, from 1
unfoldable pub script : ℕ → ℕ → List Command
script seed count =
    openings ++ flat_map (λ i. turn_commands (turn_of seed i)) (range_with_len 1 count)
