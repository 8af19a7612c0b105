-- The frames of an agent's HELLO and DISCONNECT (SPOE.txt, 3.2.5 and 3.2.9).
use Rattle.std.specs.Prelude.{ℕ, ◌==◌, ◌≤◌, List, [], length, ◌∷◌, if◌then◌else◌, Option, Some, None, IsSome, unwrap_or, codes}
use Rattle.std.specs.List.{flat_map}
use Rattle.spop_data.specs.declared.value.Data.TheVariants as types
use Rattle.spop_data.specs.declared.value.Pair.{Pair}
use Rattle.spop_data.specs.Writing.{pair_bytes}
use Rattle.spop_frame.specs.Writing.{frame_bytes}
use Rattle.spop_frame.specs.declared.flag.TheConstants.{FIN}
use Rattle.spop_frame.specs.declared.frame.Frame.{Frame}
use Rattle.spop_frame.specs.declared.kind.TheConstants.{AGENT_HELLO, AGENT_DISCONNECT}
use Rattle.spop_frame.specs.declared.status.TheConstants.{NORMAL, TOO_BIG, INVALID, NO_VERSIONS, NO_SIZE, NO_CAPABILITIES}
use Rattle.spop_frame.specs.declared.status.TheConstants.{BAD_VERSION, BAD_SIZE, FRAGMENT, NO_MEMORY}
use Rattle.spop_hello.specs.declared.terms.Terms.{Terms}

abbrev pub text_pair : List ℕ → List ℕ → Pair
text_pair name text = record { name = name; value = types.Text text }

abbrev pub number_pair : List ℕ → ℕ → Pair
number_pair name n = record { name = name; value = types.Uint32 n }

abbrev pub hello_pairs : Terms → List Pair
hello_pairs t =
    text_pair (codes "version") (codes "2.0") ∷ number_pair (codes "max-frame-size") t.size
    ∷ text_pair (codes "capabilities") (if t.pipelining then codes "pipelining" else []) ∷ []

-- what a status means, if it is one that an agent gives
abbrev pub message_of : ℕ → Option (List ℕ)
message_of status =
    if status == NORMAL then Some (codes "normal")
    else (if status == TOO_BIG then Some (codes "frame too big")
    else (if status == INVALID then Some (codes "invalid frame")
    else (if status == NO_VERSIONS then Some (codes "version not found")
    else (if status == NO_SIZE then Some (codes "max-frame-size not found")
    else (if status == NO_CAPABILITIES then Some (codes "capabilities not found")
    else (if status == BAD_VERSION then Some (codes "unsupported version")
    else (if status == BAD_SIZE then Some (codes "bad max-frame-size")
    else (if status == FRAGMENT then Some (codes "fragmentation not supported")
    else (if status == NO_MEMORY then Some (codes "resource allocation error")
    else None)))))))))

abbrev pub IsStatus : ℕ → Type 0
IsStatus status = IsSome (message_of status)

abbrev pub disconnect_pairs : ℕ → List Pair
disconnect_pairs status =
    number_pair (codes "status-code") status ∷ text_pair (codes "message") (unwrap_or (message_of status) []) ∷ []

-- no payload of these frames has more bytes
abbrev pub most_payload : ℕ
most_payload = 200

-- short enough that its frame keeps to every limit
abbrev pub IsSmall : List ℕ → Type 0
IsSmall payload = length payload ≤ most_payload

-- the payloads
unfoldable pub hello_payload : Terms → List ℕ
hello_payload t = flat_map pair_bytes (hello_pairs t)

unfoldable pub disconnect_payload : ℕ → List ℕ
disconnect_payload status = flat_map pair_bytes (disconnect_pairs status)

-- a frame with FIN alone that belongs to no stream
abbrev pub control : ℕ → List ℕ → Frame
control kind payload = record { kind = kind; flags = FIN; stream = 0; frame = 0; payload = payload }

unfoldable pub control_bytes : ℕ → List ℕ → List ℕ
control_bytes kind payload = frame_bytes (control kind payload)

-- the frames: AGENT-HELLO and AGENT-DISCONNECT
abbrev pub agent_hello : Terms → List ℕ
agent_hello t = control_bytes AGENT_HELLO (hello_payload t)

abbrev pub disconnect : ℕ → List ℕ
disconnect status = control_bytes AGENT_DISCONNECT (disconnect_payload status)
