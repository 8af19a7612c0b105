-- The entries that passes own: calls of the list of applications and of the shards of the table, with their replies.
use Rattle.std.specs.Prelude.{◌≡◌, ℕ, List, ◌++◌, length, map, slice_get, slice_set, Some}
use Rattle.std.specs.Arc.{arc_value}
use Rattle.std.specs.declared.sync.Arc.{Arc}
use Rattle.std.specs.declared.alloc.Global.{Global}
use Rattle.sec_ast.specs.declared.listing.Listing.{Listing}
use Rattle.turn_lock.specs.declared.history.Entry.{Entry}
use Rattle.turn_lock.specs.Lock.{own_of, share_of}
use Rattle.hall_core.specs.declared.calls.Ticket.{Ticket}
use Rattle.hall_core.specs.declared.calls.Call as calling
use Rattle.hall_core.specs.declared.calls.Reply as answering
use Rattle.hall_core.specs.Shared.{IsOpen}
use Rattle.hall.specs.Passes as hall
use Rattle.shelf.specs.declared.calls.Call as asking
use Rattle.shelf.specs.declared.calls.Reply as telling
use Rattle.shelf_lock.specs.Passes as shelf
use Rattle.tx_core.specs.HalfView.{HalfView}

-- what a connection holds of the rules that it judges by: the generation of their list, and what they list
abbrev pub Rules : Type 0
Rules = ℕ × Listing

-- a share of rules, as it is seen
abbrev pub Shared : Type 0
Shared = Arc Listing Global

-- the second is a share of the first
abbrev pub IsShare : Shared → Shared → Type 0
IsShare a b = arc_value b ≡ arc_value a

abbrev pub ShelfEntry : Type 0
ShelfEntry = Entry (asking.Call Shared) (telling.Reply Shared)

abbrev pub HallEntry : Type 0
HallEntry = Entry (calling.Call HalfView) (answering.Reply HalfView)

-- the table and the list that workers share, and a pass of each
abbrev pub Hall : Type 0
Hall = hall.SharedHall HalfView

abbrev pub Shelf : Type 0
Shelf = shelf.SharedShelf Shared

abbrev pub HallPass : Type 0
HallPass = hall.HallPass HalfView

abbrev pub ShelfPass : Type 0
ShelfPass = shelf.ShelfPass Shared

abbrev pub IsPassOfShelf : Shelf → ShelfPass → Type 0
IsPassOfShelf = shelf.IsPassOfShelf IsShare

-- what a pass of the table owns of each shard, and its shares
abbrev pub lists_of : HallPass → List (List HallEntry)
lists_of p = map own_of (hall.passes_of p)

abbrev pub shares_of : HallPass → List ℕ
shares_of p = map share_of (hall.passes_of p)

-- these entries came to the list of this shard, and none to another
pub record Adds (shard : ℕ) (entries : List HallEntry) (old new : List (List HallEntry)) : Type 0 where
  pub own : List HallEntry
  pub at : slice_get old shard ≡ Some own
  pub is : new ≡ slice_set old shard (own ++ entries)

-- the ticket was got, and neither parked nor left with
pub record Held (lists : List (List HallEntry)) (ticket : Ticket) : Type 0 where
  pub own : List HallEntry
  pub at : slice_get lists ticket.shard ≡ Some own
  pub is_open : IsOpen ticket.number own

-- q is the pass p after these entries on the shard. It is a pass of the same table, with the same shares
pub record After (h : Hall) (shard : ℕ) (entries : List HallEntry) (p q : HallPass) : Type 0 where
  pub of_hall : hall.IsPassOfHall h q
  pub adds : Adds shard entries (lists_of p) (lists_of q)
  pub shares : shares_of q ≡ shares_of p
