-- The commands of a turn.
use Rattle.std.specs.Prelude.{ℕ, ◌+◌, ◌%◌, List, [], ◌∷◌, ◌++◌, length, take, drop, replicate}
use Rattle.replay_text.specs.declared.command.Command.{Command}
use Rattle.replay_text.specs.declared.command.Command.TheVariants as commands
use Rattle.workload.specs.Messages.{request_bytes, response_bytes}
use Rattle.workload.specs.declared.commands.TheConstants.{CONNECTIONS, SHARDS}
use Rattle.workload.specs.declared.turns.TheConstants.{MOST_PAUSE, REQUEST_ACTS, RESPONSE_ACTS}
use Rattle.workload.specs.declared.turn.Turn.{Turn}

-- the connection of the request, and the one after it, on which the response comes
abbrev pub request_conn : Turn → ℕ
request_conn t = t.conn % CONNECTIONS

abbrev pub response_conn : Turn → ℕ
response_conn t = (request_conn t + 1) % CONNECTIONS

abbrev pub acts : ℕ → ℕ → List Command
acts count conn = replicate count (commands.Act conn)

-- how many bytes of the request come in its first piece
abbrev pub cut_of : Turn → ℕ
cut_of t = t.moment % length (request_bytes t)

-- a request in two pieces
unfoldable pub request_commands : Turn → List Command
request_commands t =
    commands.Feed (request_conn t) (take (cut_of t) (request_bytes t))
    ∷ commands.Feed (request_conn t) (drop (cut_of t) (request_bytes t))
    ∷ acts REQUEST_ACTS (request_conn t)

unfoldable pub response_commands : Turn → List Command
response_commands t = commands.Feed (response_conn t) (response_bytes t) ∷ acts RESPONSE_ACTS (response_conn t)

-- a request, a pause, a response, and an expiry of one shard
unfoldable pub turn_commands : Turn → List Command
turn_commands t =
    request_commands t ++ commands.Tick (t.moment % MOST_PAUSE) ∷ response_commands t
    ++ commands.Expire (t.number % SHARDS) ∷ []
