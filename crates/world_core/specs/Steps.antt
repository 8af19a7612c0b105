-- A step: the state after it, and what it shows.
use Rattle.std.specs.Prelude.{◌≡◌, ◌<◌, ℕ, List, [], ◌∷◌, ◌++◌, length, count_by, min, not, Some, None}
use Rattle.std.specs.List.{find}
use Rattle.sec_ast.specs.declared.listing.Listing.{Listing}
use Rattle.sec_ast.specs.declared.verdict.LogLine.{LogLine}
use Rattle.hall_core.specs.declared.Counts.{Counts}
use Rattle.hall_core.specs.declared.calls.Expiry as expiring
use Rattle.hall_core.specs.declared.calls.Expiry.TheVariants as expiries
use Rattle.hall_core.specs.declared.calls.Call.TheVariants as calls
use Rattle.hall_core.specs.declared.calls.Reply.TheVariants as answers
use Rattle.hall_core.specs.Kept.{total}
use Rattle.hall_core.specs.State as table
use Rattle.shelf.specs.declared.calls.Published as publishing
use Rattle.shelf.specs.declared.calls.Published.TheVariants as publications
use Rattle.shelf.specs.Step.{IsPublished, published}
use Rattle.conn_core.specs.declared.seen.Seen.{Seen}
use Rattle.conn_core.specs.declared.seen.Seen.TheVariants as shown
use Rattle.conn_core.specs.Stands.{opening}
use Rattle.world_core.specs.declared.step.Step.{Step}
use Rattle.world_core.specs.declared.step.Step.TheVariants.{Open, Feed, End, Act, Tick, Expire, Reload, Stats}
use Rattle.tx_core.specs.HalfView.{HalfView}
use Rattle.tx_core.specs.Halves.{RetiresAs}
use Rattle.world_core.specs.World.{Conn, Halls, Has, Need, Peer, World, is_peer, later, need_of, sent, shut, with_conn}
use Rattle.world_core.specs.Acts.{Acts, Called}

-- no count is greater
abbrev pub last_count : ℕ
last_count = 18446744073709551615

-- how many rows of all shards run, and how many are parked
abbrev pub counts_of : Halls → Counts
counts_of halls = record {
  running = min (total (λ hall. count_by (λ row. table.is_running row.stage) hall.rows) halls) last_count;
  parked = min (total (λ hall. count_by (λ row. not (table.is_running row.stage)) hall.rows) halls) last_count;
}

abbrev pub told : publishing.Published → Seen
told (publications.Generation n) = shown.Published n
told publications.Worn = shown.Worn

-- the logging phase of what was parked too long
abbrev pub IsOver : expiring.Expiry HalfView → Seen → Type 0
IsOver (expiries.Expired n key half) seen =
    (lines : List LogLine) × RetiresAs half lines × (seen ≡ shown.Expired n lines)
IsOver expiries.NothingDue seen = seen ≡ shown.NothingDue

module _ {R : Type 0} where
  -- a number is opened once; what else speaks of a connection or a shard speaks of one that there is
  abbrev pub can : World R → Step R → Type 0
  can w (Open n) = find (is_peer n) w.peers ≡ None
  can w (Feed n bytes) = (s : Conn) × Has w.peers n s
  can w (End n) = (s : Conn) × Has w.peers n s
  can w (Act n) = (s : Conn) × Has w.peers n s
  can w (Expire shard) = shard < length w.halls
  can w _ = Unit {0}

  -- the connections after one is opened
  abbrev pub opened : World R → ℕ → List Peer
  opened w n = w.peers ++ record { number = n; conn = opening w.size } ∷ []

-- listing_of says what a handle of rules lists
module _ {R : Type 0} (listing_of : R → Listing) where
  pub record ActsOn (w : World R) (n : ℕ) (u : World R) (seen : Seen) : Type 0 where
    pub before : Conn
    pub has : Has w.peers n before
    pub need : Need
    pub waits : need_of before ≡ Some need
    pub halls : Halls
    pub next : Conn
    pub acts : Acts listing_of w before need halls next seen
    pub state : u ≡ record w { halls = halls; peers = with_conn n next w.peers }

  -- the state u after a step in the state w, and what it shows
  abbrev pub Steps : World R → Step R → World R → Seen → Type 0
  Steps w (Open n) u seen = (u ≡ record w { peers = opened w n }) × (seen ≡ shown.Nothing)
  Steps w (Feed n bytes) u seen = (s : Conn) × Has w.peers n s
      × (u ≡ record w { peers = with_conn n (sent bytes s) w.peers }) × (seen ≡ shown.Nothing)
  Steps w (End n) u seen = (s : Conn) × Has w.peers n s
      × (u ≡ record w { peers = with_conn n (shut s) w.peers }) × (seen ≡ shown.Nothing)
  Steps w (Act n) u seen = ActsOn w n u seen
  Steps w (Tick units) u seen = (u ≡ record w { moment = later w.moment units }) × (seen ≡ shown.Nothing)
  Steps w (Expire shard) u seen = (expiry : expiring.Expiry HalfView) × (halls : Halls)
      × Called w.halls shard (calls.Expire w.moment) (answers.OfExpire expiry) halls
      × (u ≡ record w { halls = halls }) × IsOver expiry seen
  Steps w (Reload apps) u seen = (answer : publishing.Published) × IsPublished w.shelf answer
      × (u ≡ record w { shelf = published apps answer w.shelf }) × (seen ≡ told answer)
  Steps w Stats u seen = (u ≡ w) × (seen ≡ shown.Counts (counts_of w.halls))

  -- a list of steps, each with what it shows
  abbrev pub Runs : World R → List (Step R × Seen) → World R → Type 0
  Runs w [] u = u ≡ w
  Runs w (e ∷ es) u = (next : World R) × can w e.0 × Steps w e.0 next e.1 × Runs next es u
