-- The frames that HAProxy sends in a script (SPOE.txt, 3.2.4 and 3.2.6).
use Rattle.std.specs.Prelude.{ℕ, ◌-◌, ◌%◌, ◌==◌, ◌≤◌, min, List, [], ◌∷◌, ◌++◌}
use Rattle.std.specs.Prelude.{length, replicate, codes, if◌then◌else◌}
use Rattle.std.specs.Fmt.{decimal}
use Rattle.std.specs.List.{flat_map}
use Rattle.spop_data.specs.Writing.{counted, pair_bytes}
use Rattle.spop_data.specs.declared.value.Data.TheVariants as types
use Rattle.spop_data.specs.declared.value.Pair.{Pair}
use Rattle.spop_frame.specs.Writing.{frame_bytes}
use Rattle.spop_frame.specs.declared.flag.TheConstants.{FIN}
use Rattle.spop_frame.specs.declared.frame.Frame.{Frame}
use Rattle.spop_frame.specs.declared.kind.TheConstants.{HAPROXY_HELLO, NOTIFY}
use Rattle.workload.specs.declared.frames.TheConstants.{MOST_PAYLOAD}
use Rattle.workload.specs.declared.messages.TheConstants.{LETTER, METHODS, POST_AT, QUERIES, REQUEST, SIZE}
use Rattle.workload.specs.declared.messages.TheConstants.{FAILED, RESPONSE, SERVED, STATUSES, WAITING}
use Rattle.workload.specs.declared.turn.Turn.{Turn}

abbrev pub text_pair : List ℕ → List ℕ → Pair
text_pair name text = record { name = name; value = types.Text text }

abbrev pub number_pair : List ℕ → ℕ → Pair
number_pair name number = record { name = name; value = types.Uint32 number }

-- a frame with FIN alone
abbrev pub whole : ℕ → ℕ → ℕ → List ℕ → Frame
whole kind stream number payload =
    record { kind = kind; flags = FIN; stream = stream; frame = number; payload = payload }

-- short enough for a frame
abbrev pub IsSmall : List ℕ → Type 0
IsSmall payload = length payload ≤ MOST_PAYLOAD

-- HAPROXY-HELLO
abbrev pub hello_pairs : List Pair
hello_pairs =
    text_pair (codes "supported-versions") (codes "2.0") ∷ number_pair (codes "max-frame-size") SIZE
    ∷ text_pair (codes "capabilities") (codes "pipelining") ∷ []

unfoldable pub hello_payload : List ℕ
hello_payload = flat_map pair_bytes hello_pairs

unfoldable pub hello_bytes : List ℕ
hello_bytes = frame_bytes (whole HAPROXY_HELLO 0 0 hello_payload)

-- one message: its name, the number of its arguments, and these
abbrev pub message_bytes : List ℕ → List Pair → List ℕ
message_bytes name pairs = counted name ++ length pairs ∷ flat_map pair_bytes pairs

-- the transaction of a turn
abbrev pub id_of : ℕ → List ℕ
id_of number = codes "t" ++ decimal number

-- the method of its request: POST at one remainder, else GET
abbrev pub method_of : Turn → List ℕ
method_of t = if t.method % METHODS == POST_AT then codes "POST" else codes "GET"

abbrev pub query_of : Turn → List ℕ
query_of t = codes "q=" ++ replicate (t.query % QUERIES) LETTER

abbrev pub request_pairs : Turn → List Pair
request_pairs t =
    text_pair (codes "id") (id_of t.number) ∷ text_pair (codes "method") (method_of t)
    ∷ text_pair (codes "path") (codes "/p") ∷ text_pair (codes "query") (query_of t) ∷ []

unfoldable pub request_payload : Turn → List ℕ
request_payload t = message_bytes (codes "coraza-req") (request_pairs t)

unfoldable pub request_bytes : Turn → List ℕ
request_bytes t = frame_bytes (whole NOTIFY t.number REQUEST (request_payload t))

-- the turn whose request its response answers: this one, or one not far before it
abbrev pub answered : Turn → ℕ
answered t = t.number - min (t.number - 1) (t.back % WAITING)

abbrev pub status_of : Turn → ℕ
status_of t = if t.status % STATUSES == 0 then FAILED else SERVED

abbrev pub response_pairs : Turn → List Pair
response_pairs t = text_pair (codes "id") (id_of (answered t)) ∷ number_pair (codes "status") (status_of t) ∷ []

unfoldable pub response_payload : Turn → List ℕ
response_payload t = message_bytes (codes "coraza-res") (response_pairs t)

unfoldable pub response_bytes : Turn → List ℕ
response_bytes t = frame_bytes (whole NOTIFY t.number RESPONSE (response_payload t))
