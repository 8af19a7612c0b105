-- What a frame asks of a connection.
use Rattle.std.specs.Prelude.{◌≡◌, ◌≢◌, ◌⊎◌, ℕ, true, false, Option, Some, None, Ok, Err}
use Rattle.spop_frame.specs.declared.frame.Frame.{Frame}
use Rattle.spop_frame.specs.declared.kind.TheConstants.{HAPROXY_HELLO, HAPROXY_DISCONNECT, NOTIFY}
use Rattle.spop_frame.specs.declared.status.TheConstants.{INVALID}
use Rattle.spop_hello.specs.Frames.{IsStatus}
use Rattle.spop_hello.specs.Terms.{terms_of}
use Rattle.spop_talk.specs.Reading.{messages_of}
use Rattle.conn_core.specs.declared.heard.Heard as heard
use Rattle.conn_core.specs.declared.heard.Heard.TheVariants as heards
use Rattle.conn_core.specs.Trace.{is_misplaced}

-- before HELLO: a HELLO without terms, or another frame; after it: a garbled NOTIFY, or what HAProxy sends once or never
abbrev pub IsOut : ℕ → Option ℕ → Frame → ℕ → Type 0
IsOut size None f status =
    ((f.kind ≡ HAPROXY_HELLO) × (terms_of size f.payload ≡ Err status))
    ⊎ ((f.kind ≢ HAPROXY_DISCONNECT) × (f.kind ≢ HAPROXY_HELLO) × (status ≡ INVALID))
IsOut size (Some agreed) f status =
    ((f.kind ≡ NOTIFY) × (messages_of f.payload ≡ None) × (status ≡ INVALID))
    ⊎ ((f.kind ≢ HAPROXY_DISCONNECT) × (f.kind ≢ NOTIFY) × (is_misplaced f.kind ≡ true) × (status ≡ INVALID))

-- a refusal has a status that says so
abbrev pub IsKnown : heard.Heard → Type 0
IsKnown (heards.Refused status) = IsStatus status
IsKnown other = Unit {0}

-- Of an agent that offers this size, and has agreed on one or has not. Memory may run out in any frame.
abbrev pub Hears : ℕ → Option ℕ → Frame → heard.Heard → Type 0
Hears size agreed f heards.Goodbye = f.kind ≡ HAPROXY_DISCONNECT
Hears size agreed f (heards.Hello terms) =
    (agreed ≡ None) × (f.kind ≡ HAPROXY_HELLO) × (terms_of size f.payload ≡ Ok terms)
Hears size agreed f (heards.Messages stream frame messages) =
    (a : ℕ) × (agreed ≡ Some a) × (f.kind ≡ NOTIFY) × (messages_of f.payload ≡ Some messages)
    × (stream ≡ f.stream) × (frame ≡ f.frame)
Hears size agreed f (heards.Refused status) = IsOut size agreed f status
Hears size agreed f heards.Nothing =
    (a : ℕ) × (agreed ≡ Some a) × (f.kind ≢ HAPROXY_DISCONNECT) × (f.kind ≢ NOTIFY) × (is_misplaced f.kind ≡ false)
Hears size agreed f heards.NoMemory = Unit {0}
