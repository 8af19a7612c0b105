-- What is to hold of every run.
use Rattle.std.specs.Prelude.{◌≡◌, ◌≢◌, ℕ, nat_eq, cond, List, [], ◌∷◌, ◌++◌, slice_get, Some}
use Rattle.sec_ast.specs.declared.listing.Listing.{Listing}
use Rattle.hall_core.specs.State as table
use Rattle.hall_core.specs.Promised as history
use Rattle.hall_core.specs.Kept.{left_by}
use Rattle.conn_core.specs.declared.seen.Seen.{Seen}
use Rattle.conn_core.specs.declared.seen.Seen.TheVariants as shown
use Rattle.conn_core.specs.Trace as needs
use Rattle.world_core.specs.declared.step.Step.{Step}
use Rattle.world_core.specs.declared.step.Step.TheVariants.{Open, Feed, End, Act}
use Rattle.tx_core.specs.HalfView.{HalfView}
use Rattle.world_core.specs.World.{Conn, Has, Need, World}
use Rattle.world_core.specs.Steps.{Runs, Steps}
use Rattle.world_core.specs.Standing.{TicketsRun}

-- what the needs that are done wrote
abbrev pub written : List Need → List ℕ
written [] = []
written (needs.Write bytes ∷ past) = bytes ++ written past
written (need ∷ past) = written past

module _ {R : Type 0} where
  -- the step is not one of this connection
  abbrev pub IsElsewhere : Step R → ℕ → Type 0
  IsElsewhere (Open m) n = m ≢ n
  IsElsewhere (Feed m bytes) n = m ≢ n
  IsElsewhere (End m) n = m ≢ n
  IsElsewhere (Act m) n = m ≢ n
  IsElsewhere step n = Unit {0}

  -- what a run shows as written on a connection
  abbrev pub out_at : ℕ → Step R → Seen → List ℕ
  out_at n (Act m) (shown.Out bytes) = cond (nat_eq m n) bytes []
  out_at n step seen = []

  abbrev pub output_of : ℕ → List (Step R × Seen) → List ℕ
  output_of n [] = []
  output_of n (e ∷ es) = out_at n e.0 e.1 ++ output_of n es

module _ {R : Type 0} (listing_of : R → Listing) where
  -- a step of one connection, of the clock, of a shard or of the applications leaves every other connection as it was
  abbrev pub OthersStay : Type 0
  OthersStay = (w : World R) (step : Step R) (u : World R) (seen : Seen) (n : ℕ) (s : Conn)
      → Steps listing_of w step u seen → IsElsewhere step n → Has w.peers n s → Has u.peers n s

  -- what is shown as written on a connection is what its needs wrote
  abbrev pub OutputIsOfNeeds : Type 0
  OutputIsOfNeeds = (w : World R) (log : List (Step R × Seen)) (u : World R) (n : ℕ) (s : Conn) → w.peers ≡ []
      → Runs listing_of w log u → Has u.peers n s → output_of n log ≡ written s.past

  -- what a shard goes through is a legal history of it, so what is parked there is claimed at most once
  abbrev pub ShardsAreLegal : Type 0
  ShardsAreLegal = (w : World R) (log : List (Step R × Seen)) (u : World R) (i : ℕ) (hall : table.State HalfView)
      → Runs listing_of w log u → slice_get w.halls i ≡ Some hall
      → (made : List (history.Made HalfView)) × history.Legal hall made
      × (slice_get u.halls i ≡ Some (left_by history.call_of history.reply_of hall made))

  -- in each shard as many rows run under a number as connections hold tickets of it, and each step keeps that
  abbrev pub TicketsStay : Type 0
  TicketsStay = (w : World R) (step : Step R) (u : World R) (seen : Seen) → TicketsRun w.halls w.peers
      → Steps listing_of w step u seen → TicketsRun u.halls u.peers
