-- What the lines of an input ask of a running agent.
use Rattle.std.specs.Prelude.{◌≡◌, ◌≢◌, ◌⊎◌, ◌||◌, ℕ, Bool, true, false, List, [], ◌∷◌, ◌++◌, codes, Option, if◌then◌else◌}
use Rattle.std.specs.Str.{bytes_eq}
use Rattle.conn_loop.specs.Ends.{HasEnded, IsTaken}
use Rattle.console.specs.declared.order.Order as order
use Rattle.console.specs.declared.order.Order.TheVariants as orders
use Rattle.console.specs.declared.next.Asked as asking
use Rattle.console.specs.declared.next.Asked.TheVariants as asked
use Rattle.console.specs.declared.next.TheConstants.{LINE_FEED}

-- the line is one of two texts: a word, and the same with a CR after it
abbrev pub says : List ℕ → List ℕ → List ℕ → Bool
says word ended line = bytes_eq line word || bytes_eq line ended

abbrev pub order_of : List ℕ → order.Order
order_of line =
    if says (codes "reload") (codes "reload\r") line then orders.Reload
    else (if says (codes "stats") (codes "stats\r") line then orders.Stats
    else (if says (codes "stop") (codes "stop\r") line then orders.Stop
    else (if says [] (codes "\r") line then orders.Nothing
    else orders.Unknown)))

-- no line ends in it
abbrev pub IsLine : List ℕ → Type 0
IsLine [] = Unit {0}
IsLine (c ∷ line) = (c ≢ LINE_FEED) × IsLine line

-- what the source had left, and how often it said that it ended, before and after
pub record Around : Type 0 where
  pub left : Option (List ℕ)
  pub ends : ℕ

abbrev pub around : Option (List ℕ) → ℕ → Around
around left ends = record { left = left; ends = ends }

-- these bytes were taken, and whether the end of the input was heard after them
pub record Takes (taken : List ℕ) (ended : Bool) (old new : Around) : Type 0 where
  pub rest : List ℕ
  pub is_taken : IsTaken old.left new.left taken rest
  pub has_ended : HasEnded ended rest old.ends new.ends

-- A line was taken with its end, or the last one up to the end of the input. Where the source tells nothing there are
-- bytes such that this holds of them.
abbrev pub Asks : asking.Asked → Around → Around → Type 0
Asks (asked.Order order) old new = (line : List ℕ) × IsLine line × (order ≡ order_of line)
    × (Takes (line ++ LINE_FEED ∷ []) false old new ⊎ ((line ≢ []) × Takes line true old new))
Asks asked.End old new = Takes [] true old new
Asks asked.ReadFault old new = (line : List ℕ) × IsLine line × Takes line false old new
