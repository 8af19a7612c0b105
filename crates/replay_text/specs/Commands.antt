-- The command that a line of a script is.
use Rattle.std.specs.Prelude.{ℕ, ◌≤◌, List, [], ◌∷◌, codes, bytes_eq, Option, Some, None, Result, Ok, Err, if◌then◌else◌}
use Rattle.std.specs.Option.{option_map, option_and_then}
use Rattle.hex.specs.Hex.{decode_of}
use Rattle.hex.specs.declared.error.FromHexError.{FromHexError}
use Rattle.web_parts.specs.Pieces.{before, behind}
use Rattle.replay_text.specs.Numbers.{number_to}
use Rattle.replay_text.specs.declared.command.Command.{Command}
use Rattle.replay_text.specs.declared.command.Command.TheVariants as commands
use Rattle.replay_text.specs.declared.command.TheConstants.{LAST_CONNECTION, LAST_SHARD, MOST_UNITS, SPACE}

abbrev pub connection_in : List ℕ → Option ℕ
connection_in = number_to LAST_CONNECTION

abbrev pub decoded : Result (List ℕ) FromHexError → Option (List ℕ)
decoded (Ok bytes) = Some bytes
decoded (Err fault) = None

-- pairs of hexadecimal digits, in either case, or a hyphen for no bytes
abbrev pub bytes_of : List ℕ → Option (List ℕ)
bytes_of [] = None
bytes_of (b ∷ digits) = if bytes_eq (b ∷ digits) (codes "-") then Some [] else decoded (decode_of (b ∷ digits))

-- a connection, and behind one space what is sent on it
abbrev pub fed : List ℕ → Option Command
fed words =
    option_and_then
    (λ conn. option_and_then (λ digits. option_map (λ bytes. commands.Feed conn bytes) (bytes_of digits))
    (behind SPACE words)) (connection_in (before SPACE words))

-- the commands of one number
abbrev pub one_of : List ℕ → List ℕ → Option Command
one_of name word =
    if bytes_eq name (codes "open") then option_map (λ conn. commands.Open conn) (connection_in word)
    else (if bytes_eq name (codes "end") then option_map (λ conn. commands.End conn) (connection_in word)
    else (if bytes_eq name (codes "act") then option_map (λ conn. commands.Act conn) (connection_in word)
    else (if bytes_eq name (codes "tick") then option_map (λ by. commands.Tick by) (number_to MOST_UNITS word)
    else (if bytes_eq name (codes "expire") then option_map (λ shard. commands.Expire shard) (number_to LAST_SHARD word)
    else None))))

-- the commands of a name alone
abbrev pub alone : List ℕ → Option Command
alone name =
    if bytes_eq name (codes "reload") then Some commands.Reload
    else (if bytes_eq name (codes "stats") then Some commands.Stats
    else None)

-- a name alone, or a name and what stands behind the first space
abbrev pub named : List ℕ → Option (List ℕ) → Option Command
named name None = alone name
named name (Some words) = if bytes_eq name (codes "feed") then fed words else one_of name words

abbrev pub command_of : List ℕ → Option Command
command_of line = named (before SPACE line) (behind SPACE line)

-- the connection that a command opens is one that a script may have
abbrev pub IsBounded : Command → Type 0
IsBounded (commands.Open conn) = conn ≤ LAST_CONNECTION
IsBounded other_command = Unit {0}
