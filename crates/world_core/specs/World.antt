-- The state of several connections over one list of applications and the shards of one table.
use Rattle.std.specs.Prelude.{◌≡◌, ℕ, ◌+◌, Bool, true, false, cond, min, nat_eq, List, ◌++◌, length, slice_get, Option, Some}
use Rattle.std.specs.List.{find}
use Rattle.hall_core.specs.declared.calls.Ticket.{Ticket}
use Rattle.hall_core.specs.Rows.{changed}
use Rattle.hall_core.specs.State as table
use Rattle.shelf.specs.State as applications
use Rattle.conn_core.specs.Stands as connection
use Rattle.conn_core.specs.Trace as needs
use Rattle.sec_ast.specs.declared.listing.Listing.{Listing}
use Rattle.tx_core.specs.HalfView.{HalfView}

-- what a connection holds of the rules that it judges by: the generation of their list, and what they list
abbrev pub Rules : Type 0
Rules = ℕ × Listing

abbrev pub Conn : Type 0
Conn = connection.State Rules HalfView Ticket

abbrev pub Need : Type 0
Need = needs.Need Rules HalfView Ticket

abbrev pub Halls : Type 0
Halls = List (table.State HalfView)

-- a connection with its number
pub record Peer : Type 0 where
  pub number : ℕ
  pub conn : Conn

-- R is a handle of rules
pub record World (R : Type 0) : Type 0 where
  pub size : ℕ  -- of the frames that are offered
  pub shelf : applications.State R
  pub halls : Halls  -- the shards, by their numbers
  pub moment : ℕ
  pub peers : List Peer  -- in the order in which they were opened

-- no moment is greater
abbrev pub last_moment : ℕ
last_moment = 18446744073709551615

-- the moment after so many units
abbrev pub later : ℕ → ℕ → ℕ
later moment units = min (moment + units) last_moment

abbrev pub is_peer : ℕ → Peer → Bool
is_peer n peer = nat_eq peer.number n

-- the connection with this number is this one
pub record Has (peers : List Peer) (n : ℕ) (s : Conn) : Type 0 where
  pub peer : Peer
  pub found : find (is_peer n) peers ≡ Some peer
  pub conn : peer.conn ≡ s

-- the same but for one connection
abbrev pub with_conn : ℕ → Conn → List Peer → List Peer
with_conn n s peers = changed (is_peer n) (λ peer. record { number = peer.number; conn = s }) peers

-- its need: the first of its trace that is not done
abbrev pub need_of : Conn → Option Need
need_of s = slice_get (needs.trace s.size s.input s.ended s.replies) (length s.past)

abbrev pub is_close : Option Need → Bool
is_close (Some (needs.Close how)) = true
is_close _ = false

-- what is sent to it, or that nothing more is, where it has not closed
abbrev pub sent : List ℕ → Conn → Conn
sent bytes s = cond (is_close (need_of s)) s
    (record { size = s.size; input = s.input ++ bytes; ended = s.ended; replies = s.replies; past = s.past })

abbrev pub shut : Conn → Conn
shut s = cond (is_close (need_of s)) s
    (record { size = s.size; input = s.input; ended = true; replies = s.replies; past = s.past })
