-- The messages that a payload is, as a function.
use Rattle.std.specs.Prelude.{ℕ, List, [], ◌∷◌, Option, Some, None}
use Rattle.spop_varint.specs.Reading.{◌>>=◌}
use Rattle.spop_data.specs.Lists.{all_of}
use Rattle.spop_data.specs.Reading.{counted_at, pairs_at}
use Rattle.spop_data.specs.declared.value.Pair.{Pair}
use Rattle.spop_talk.specs.declared.message.Message.{Message}

-- as many arguments as the first byte says
abbrev pub args_at : List ℕ → Option (List Pair × List ℕ)
args_at [] = None
args_at (count ∷ bytes) = pairs_at count bytes

unfoldable pub message_at : List ℕ → Option (Message × List ℕ)
message_at bytes = do
  name ← counted_at bytes
  args ← args_at name.1
  Some (record { name = name.0; args = args.0 }, args.1)

-- messages one after the other, and nothing else
unfoldable pub messages_of : List ℕ → Option (List Message)
messages_of payload = all_of message_at payload
