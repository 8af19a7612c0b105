-- What a connection's act at its need does: the shards after it, the connection after it, and what it shows.
use Rattle.std.specs.Prelude.{◌≡◌, ℕ, List, length, slice_get, slice_set, Option, Some, None}
use Rattle.sec_ast.specs.declared.listing.Listing.{Listing}
use Rattle.sec_ast.specs.declared.verdict.LogLine.{LogLine}
use Rattle.spop_web.specs.declared.answer.AckError.TheVariants as errors
use Rattle.hall_core.specs.declared.calls.Ticket.{Ticket}
use Rattle.hall_core.specs.declared.calls.Entry as entering
use Rattle.hall_core.specs.declared.calls.Entry.TheVariants as entries
use Rattle.hall_core.specs.declared.calls.Claim as claiming
use Rattle.hall_core.specs.declared.calls.Claim.TheVariants as claims
use Rattle.hall_core.specs.declared.calls.Call as calling
use Rattle.hall_core.specs.declared.calls.Call.TheVariants as calls
use Rattle.hall_core.specs.declared.calls.Reply as answering
use Rattle.hall_core.specs.declared.calls.Reply.TheVariants as answers
use Rattle.hall_core.specs.Shard.{shard_of}
use Rattle.hall_core.specs.State as table
use Rattle.hall_core.specs.Step as turn
use Rattle.shelf.specs.declared.apps.Settings as wishes
use Rattle.shelf.specs.declared.calls.Look as looking
use Rattle.shelf.specs.declared.calls.Look.TheVariants as looks
use Rattle.shelf.specs.Step.{IsLook}
use Rattle.conn_core.specs.declared.answer.Settings.{Settings}
use Rattle.conn_core.specs.declared.seen.Seen.{Seen}
use Rattle.conn_core.specs.declared.seen.Seen.TheVariants as shown
use Rattle.conn_core.specs.Stands.{served, replied}
use Rattle.conn_core.specs.Trace as needs
use Rattle.tx_core.specs.declared.half.Begun as beginning
use Rattle.tx_core.specs.declared.half.Begun.TheVariants as beginnings
use Rattle.tx_core.specs.declared.half.Ended.{Ended}
use Rattle.tx_core.specs.HalfView.{HalfView}
use Rattle.tx_core.specs.Halves.{BeginsAs, EndsAs, RetiresAs}
use Rattle.world_core.specs.World.{Conn, Halls, Need, Rules, World, later}

abbrev pub Reply : Type 0
Reply = needs.Reply Rules HalfView Ticket

-- the reply to Enter and to Resume, by what the table answers
abbrev pub entry_reply : entering.Entry → Reply
entry_reply (entries.Entered ticket) = needs.Entered ticket
entry_reply (entries.IdInUse n) = needs.Refused errors.IdInUse
entry_reply (entries.Full n) = needs.Refused errors.TableFull
entry_reply (entries.Worn n) = needs.Refused errors.Worn

abbrev pub claim_reply : claiming.Claim HalfView → Reply
claim_reply (claims.Resumed n half) = needs.Resumed half
claim_reply claims.NotParked = needs.NotParked

-- what an application wants, as a connection is told
abbrev pub told_settings : wishes.Settings → Settings
told_settings wants = record { responses = wants.responses; life = wants.life }

-- a call of one shard, and the shards after it
pub record Called (halls : Halls) (shard : ℕ) (c : calling.Call HalfView) (r : answering.Reply HalfView)
    (others : Halls) : Type 0 where
  pub hall : table.State HalfView
  pub is : slice_get halls shard ≡ Some hall
  pub may : turn.may hall c
  pub reply : turn.allows hall c r
  pub state : others ≡ slice_set halls shard (turn.after hall c r)

-- In each of these s is the connection with its need done, and t the one after the act, with a reply where there is one

-- the request's half of a judgement
abbrev pub IsBegun : beginning.Begun → Conn → Conn → Seen → Type 0
IsBegun (beginnings.Interrupted verdict lines) s t seen =
    (t ≡ replied (needs.Interrupted verdict) s) × (seen ≡ shown.Lines lines)
IsBegun (beginnings.Goes half lines) s t seen = (t ≡ replied (needs.Goes half) s) × (seen ≡ shown.Lines lines)

-- at a need of judging
abbrev pub Judges : Conn → Need → Conn → Seen → Type 0
Judges s (needs.Begin rules request) t seen =
    (begun : beginning.Begun) × BeginsAs rules.1 rules.0 request begun × IsBegun begun s t seen
Judges s (needs.Finish half response) t seen = (ended : Ended) × EndsAs half response ended
    × (t ≡ replied (needs.Ended ended.verdict) s) × (seen ≡ shown.Lines ended.lines)
Judges s (needs.Retire half) t seen =
    (lines : List LogLine) × RetiresAs half lines × (t ≡ s) × (seen ≡ shown.Lines lines)
Judges s need t seen = ⊥

-- at a need of the table: the shards after it too. A deadline is the moment with the life added
abbrev pub Turns : Halls → ℕ → Conn → Need → Halls → Conn → Type 0
Turns halls moment s (needs.Enter key) others t = (entry : entering.Entry)
    × Called halls (shard_of (length halls) key) (calls.Enter key) (answers.OfEnter entry) others
    × (t ≡ replied (entry_reply entry) s)
Turns halls moment s (needs.Park ticket life half) others t =
    Called halls ticket.shard (calls.Park ticket (later moment life) half) answers.OfPark others × (t ≡ s)
Turns halls moment s (needs.Leave ticket) others t =
    Called halls ticket.shard (calls.Leave ticket) answers.OfLeave others × (t ≡ s)
Turns halls moment s (needs.Resume key) others t = (claim : claiming.Claim HalfView)
    × Called halls (shard_of (length halls) key) (calls.Resume key) (answers.OfResume claim) others
    × (t ≡ replied (claim_reply claim) s)
Turns halls moment s need others t = ⊥

-- listing_of says what a handle of rules lists
module _ {R : Type 0} (listing_of : R → Listing) where
  abbrev pub IsShare : R → R → Type 0
  IsShare a b = listing_of b ≡ listing_of a

  abbrev pub looked : looking.Look R → Conn → Option Conn
  looked (looks.Found n rules wants) s = Some (replied (needs.Found (n, listing_of rules) (told_settings wants)) s)
  looked (looks.UnknownApp n) s = Some (replied needs.UnknownApp s)
  looked looks.NoMemory s = None

  -- at a need of the list of applications
  abbrev pub Looks : World R → List ℕ → Conn → Conn → Type 0
  Looks w name s t = (answer : looking.Look R) × IsLook IsShare w.shelf name answer × (looked answer s ≡ Some t)

  -- The act of a connection at its need. At Bytes and at Close it stays
  abbrev pub Acts : World R → Conn → Need → Halls → Conn → Seen → Type 0
  Acts w s needs.Bytes halls t seen = (halls ≡ w.halls) × (t ≡ s) × (seen ≡ shown.Nothing)
  Acts w s (needs.Close how) halls t seen = (halls ≡ w.halls) × (t ≡ s) × (seen ≡ shown.Closed how)
  Acts w s (needs.Write bytes) halls t seen =
      (halls ≡ w.halls) × (t ≡ served (needs.Write bytes) s) × (seen ≡ shown.Out bytes)
  Acts w s (needs.Look name) halls t seen =
      (halls ≡ w.halls) × Looks w name (served (needs.Look name) s) t × (seen ≡ shown.Nothing)
  Acts w s (needs.Begin rules request) halls t seen = let need : Need = needs.Begin rules request in
      (halls ≡ w.halls) × Judges (served need s) need t seen
  Acts w s (needs.Finish half response) halls t seen = let need : Need = needs.Finish half response in
      (halls ≡ w.halls) × Judges (served need s) need t seen
  Acts w s (needs.Retire half) halls t seen = let need : Need = needs.Retire half in
      (halls ≡ w.halls) × Judges (served need s) need t seen
  Acts w s need halls t seen = Turns w.halls w.moment (served need s) need halls t × (seen ≡ shown.Nothing)
