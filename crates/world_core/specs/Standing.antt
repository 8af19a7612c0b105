-- When several connections stand for a state of the definition.
use Rattle.std.specs.Prelude.{◌≡◌, ℕ, ◌+◌, Bool, false, cond, nat_eq, List, [], ◌∷◌, length, slice_get, Option, Some, None, Result, Ok, Err}
use Rattle.std.specs.declared.sync.Arc.{Arc}
use Rattle.std.specs.declared.alloc.Global.{Global}
use Rattle.waf_plain.specs.declared.NoMemory.{NoMemory}
use Rattle.sec_ast.specs.declared.listing.Listing.{Listing}
use Rattle.hall_core.specs.declared.calls.Ticket.{Ticket}
use Rattle.hall_core.specs.Kept.{one, running, total}
use Rattle.hall_core.specs.State as table
use Rattle.hall_core.specs.Step as turn
use Rattle.shelf.specs.declared.apps.Apps.{Apps}
use Rattle.shelf.specs.State as applications
use Rattle.shelf.specs.Step as publishing
use Rattle.conn_core.specs.declared.need.Need as need
use Rattle.conn_core.specs.declared.seen.Seen.{Seen}
use Rattle.conn_core.specs.Stands.{ConnView, Stands, spent_in, tickets_in}
use Rattle.conn_loop.specs.Met.{kind_of}
use Rattle.tx_core.specs.HalfView.{HalfView}
use Rattle.world_core.specs.declared.peers.Connection as numbered
use Rattle.world_core.specs.declared.step.Step.{Step}
use Rattle.world_core.specs.World.{Conn, Halls, Has, Need, Peer, Rules, World, need_of}
use Rattle.world_core.specs.Steps.{Steps, can}

-- a connection with its number, as it is seen
abbrev pub Connection : Type 0
Connection = numbered.Connection HalfView

-- the connections as they are seen, with what they share
pub record WorldView (R : Type 0) : Type 0 where
  pub size : ℕ
  pub shelf : applications.State R
  pub halls : Halls
  pub moment : ℕ
  pub peers : List Connection

-- a share of rules, as it is seen
abbrev pub Shared : Type 0
Shared = Arc Listing Global

abbrev pub Talk : Type 0
Talk = ConnView Rules HalfView Ticket

abbrev pub is_numbered : ℕ → Connection → Bool
is_numbered n peer = nat_eq peer.number n

-- it has its memory, and stands for a state
abbrev pub IsWhole : Talk → Type 0
IsWhole conn = (conn.broken ≡ false) × (s : Conn) × Stands conn s

-- it goes on at another state
abbrev pub Becomes : Talk → Talk → (Conn → Conn) → Type 0
Becomes old new change = (s : Conn) → Stands old s → (new.broken ≡ false) × Stands new (change s)

-- it stands for this one
pub record StandsAt (v : Connection) (peer : Peer) : Type 0 where
  pub number : v.number ≡ peer.number
  pub whole : v.conn.broken ≡ false
  pub stands : Stands v.conn peer.conn

abbrev pub StandAll : List Connection → List Peer → Type 0
StandAll [] [] = Unit {0}
StandAll (v ∷ vs) (peer ∷ peers) = StandsAt v peer × StandAll vs peers
StandAll vs peers = ⊥

-- whether a ticket is that of this shard with this number, and how many are
abbrev pub is_ticket : ℕ → ℕ → Ticket → Bool
is_ticket shard n ticket = cond (nat_eq ticket.shard shard) (nat_eq ticket.number n) false

abbrev pub count_of : ℕ → ℕ → List Ticket → ℕ
count_of shard n tickets = total (λ ticket. one (is_ticket shard n ticket)) tickets

-- how often connections were given it, and how often they parked or left it
abbrev pub given_to : ℕ → ℕ → List Peer → ℕ
given_to shard n peers = total (λ peer. count_of shard n (tickets_in peer.conn.replies)) peers

abbrev pub spent_by : ℕ → ℕ → List Peer → ℕ
spent_by shard n peers = total (λ peer. count_of shard n (spent_in peer.conn.past)) peers

-- how many rows of a shard run under a number
abbrev pub running_at : ℕ → Option (table.State HalfView) → ℕ
running_at n None = 0
running_at n (Some hall) = running n hall.rows

-- each shard has the number of its place
abbrev pub AreNumbered : Halls → Type 0
AreNumbered halls = (i : ℕ) (hall : table.State HalfView) → slice_get halls i ≡ Some hall → hall.shard ≡ i

-- In each shard as many rows run under a number as connections hold tickets of it
pub record TicketsRun (halls : Halls) (peers : List Peer) : Type 0 where
  pub shard : AreNumbered halls
  pub held : (i n : ℕ) → running_at n (slice_get halls i) + spent_by i n peers ≡ given_to i n peers

-- a ticket that may be parked or left
abbrev pub Runs : Halls → Ticket → Type 0
Runs halls ticket = (hall : table.State HalfView) × (slice_get halls ticket.shard ≡ Some hall)
    × turn.IsRunning hall.rows ticket.number

-- so many shards as they are made, for so many rows each
pub record AreNew (count capacity : ℕ) (halls : Halls) : Type 0 where
  pub count_is : length halls ≡ count
  pub each : (i : ℕ) (hall : table.State HalfView) → slice_get halls i ≡ Some hall → turn.IsNew i capacity hall

module _ {R : Type 0} where
  pub record StandsFor (v : WorldView R) (w : World R) : Type 0 where
    pub size : v.size ≡ w.size
    pub shelf : v.shelf ≡ w.shelf
    pub halls : v.halls ≡ w.halls
    pub moment : v.moment ≡ w.moment
    pub peers : StandAll v.peers w.peers
    pub tickets : TicketsRun w.halls w.peers

  -- a state before the first step, with so many shards of so many rows
  pub record IsOpening (size shards capacity : ℕ) (apps : Apps R) (w : World R) : Type 0 where
    pub size_is : w.size ≡ size
    pub shelf : publishing.IsNew apps w.shelf
    pub halls : AreNew shards capacity w.halls
    pub moment : w.moment ≡ 0
    pub peers : w.peers ≡ []

  abbrev pub Opens : ℕ → ℕ → ℕ → Apps R → WorldView R → Type 0
  Opens size shards capacity apps v = (w : World R) × IsOpening size shards capacity apps w × StandsFor v w

  -- the connection of this number was opened
  pub record IsOpen (v : WorldView R) (n : ℕ) : Type 0 where
    pub state : World R
    pub stands : StandsFor v state
    pub conn : Conn
    pub has : Has state.peers n conn

  -- it needs a thing of this kind
  abbrev pub NeedsA : WorldView R → ℕ → need.Need → Type 0
  NeedsA v n kind = (w : World R) (s : Conn) → StandsFor v w → Has w.peers n s
      → (waits : Need) × (need_of s ≡ Some waits) × (kind ≡ kind_of waits)

  -- the step may be made
  pub record May (v : WorldView R) (step : Step R) : Type 0 where
    pub state : World R
    pub stands : StandsFor v state
    pub possible : can state step

-- The step was made, from any state that was stood for; nothing is said where there was no memory
module _ {R : Type 0} (listing_of : R → Listing) where
  abbrev pub Moves : WorldView R → Step R → Seen → WorldView R → Type 0
  Moves old step seen new = (w : World R) → StandsFor old w → can w step
      → (u : World R) × Steps listing_of w step u seen × StandsFor new u

  abbrev pub Stepped : WorldView R → Step R → Result Seen NoMemory → WorldView R → Type 0
  Stepped old step (Ok seen) new = Moves old step seen new
  Stepped old step (Err e) new = Unit {0}

-- as it is seen where rules are shared by an Arc
abbrev pub SharedView : Type 0
SharedView = WorldView Shared
