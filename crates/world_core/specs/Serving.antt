-- What the tables do for a need of a connection.
use Rattle.std.specs.Prelude.{◌≡◌, ℕ, Bool, false, List, [], ◌∷◌, Some}
use Rattle.std.specs.Arc.{arc_value}
use Rattle.sec_ast.specs.declared.listing.Listing.{Listing}
use Rattle.shelf.specs.State as applications
use Rattle.conn_core.specs.declared.seen.Seen.{Seen}
use Rattle.conn_core.specs.declared.seen.Seen.TheVariants as shown
use Rattle.conn_core.specs.Calls.{out_of}
use Rattle.conn_core.specs.Stands.{Stands, replied, served}
use Rattle.conn_core.specs.Trace.{Write}
use Rattle.conn_loop.specs.Met.{IsHeld}
use Rattle.world_core.specs.declared.tables.Tables.{Tables}
use Rattle.world_core.specs.World.{Conn, Halls, Need, World, need_of}
use Rattle.world_core.specs.Acts.{Acts, Reply}
use Rattle.world_core.specs.Standing.{Runs, Shared, Talk}

-- the list of applications, the shards and the moment; what the last need shows, and whether there was no memory for it
pub record Desk (R : Type 0) : Type 0 where
  pub shelf : applications.State R
  pub halls : Halls
  pub moment : ℕ
  pub seen : Seen
  pub starved : Bool

abbrev pub SharedDesk : Type 0
SharedDesk = Desk Shared

abbrev pub desk_of : {J H : Type 0} → Tables J H → SharedDesk
desk_of t = record { shelf = t.shelf; halls = t.shards; moment = t.moment; seen = t.seen; starved = t.starved }

-- the same as a state, without connections
abbrev pub state_at : {R : Type 0} → Desk R → World R
state_at desk = record { size = 0; shelf = desk.shelf; halls = desk.halls; moment = desk.moment; peers = [] }

-- a connection that got these replies
abbrev pub with_replies : List Reply → Conn → Conn
with_replies [] s = s
with_replies (reply ∷ replies) s = with_replies replies (replied reply s)

-- the ticket that a connection holds may be
abbrev pub Keeps : SharedDesk → Talk → Type 0
Keeps desk conn = IsHeld (λ desk ticket. Runs desk.halls ticket) desk conn

module _ {R : Type 0} (listing_of : R → Listing) where
  -- the need of any connection is met with these replies, as the definition says, unless there was no memory for it
  pub record Serves (old : Desk R) (need : Need) (mine : List Reply) (new : Desk R) : Type 0 where
    pub shelf : new.shelf ≡ old.shelf
    pub moment : new.moment ≡ old.moment
    pub acts : new.starved ≡ false → old.seen ≡ shown.Nothing → (s : Conn)
        → Acts listing_of (state_at old) s need new.halls (with_replies mine (served need s)) new.seen

-- the act of a connection, as its definition says
pub record ActsAs (old new : SharedDesk) (conn : Talk) (s : Conn) (seen : Seen) : Type 0 where
  pub shelf : new.shelf ≡ old.shelf
  pub moment : new.moment ≡ old.moment
  pub need : Need
  pub waits : need_of s ≡ Some need
  pub next : Conn
  pub acts : Acts arc_value (state_at old) s need new.halls next seen
  pub whole : conn.broken ≡ false
  pub stands : Stands conn next

abbrev pub Acted : SharedDesk → SharedDesk → Talk → Talk → Seen → Type 0
Acted old new before now seen = (s : Conn) → Stands before s → ActsAs old new now s seen

-- it wrote what it had to write
pub record Writes (before now : Talk) (seen : Seen) : Type 0 where
  pub shows : seen ≡ shown.Out (out_of before.stage)
  pub whole : now.broken ≡ false
  pub stands : (s : Conn) → Stands before s → Stands now (served (Write (out_of before.stage)) s)
