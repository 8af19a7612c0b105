-- What an agent has before it serves.
use Rattle.std.specs.Prelude.{◌≡◌, ◌≤◌, ◌+◌, ℕ, List, length, slice_get, Some}
use Rattle.std.specs.List.{All}
use Rattle.turn_lock.specs.Lock.{opened_with, share_of}
use Rattle.hall_core.specs.Step as table
use Rattle.hall.specs.Passes.{IsPassOfHall, Lock, Seat, locks_of, passes_of, shards_of}
use Rattle.shelf.specs.declared.apps.Apps.{Apps}
use Rattle.shelf.specs.Step as list
use Rattle.tx_core.specs.HalfView.{HalfView}
use Rattle.conn_worker.specs.Entries.{Hall, HallPass, IsPassOfShelf, Shared, Shelf, ShelfPass}
use Rattle.agent_serve.specs.declared.opening.Agent.{Agent}
use Rattle.agent_serve.specs.Crew.{IsMember, Member}

-- passes for orders, and a member with passes of its own for each worker
pub record IsManned (workers : ℕ) (hall : Hall) (p : HallPass) (shelf : Shelf) (r : ShelfPass) (crew : List Member)
    : Type 0 where
  pub desk : IsPassOfHall hall p
  pub rules : IsPassOfShelf shelf r
  pub count : length crew ≡ workers
  pub members : All (IsMember hall shelf) crew

-- at each shard the pass has so many shares at least
abbrev pub HasShares : ℕ → HallPass → Type 0
HasShares n p = (s : ℕ) (q : Seat HalfView) → slice_get (passes_of p) s ≡ Some q → n ≤ share_of q

-- passes with so many shares at least
pub record IsShared (n : ℕ) (hall : Hall) (p : HallPass) (shelf : Shelf) (r : ShelfPass) : Type 0 where
  pub desk : IsPassOfHall hall p
  pub rules : IsPassOfShelf shelf r
  pub desk_shares : HasShares n p
  pub rules_share : n ≤ share_of r

-- passes p and r are q and t now: they gave a share each
abbrev pub LeavesOthers : Hall → HallPass → HallPass → Shelf → ShelfPass → ShelfPass → Type 0
LeavesOthers hall p q shelf r t = (n : ℕ) → IsShared (n + 1) hall p shelf r → IsShared n hall q shelf t

-- A table of so many shards without rows, each with room for so many, a list of these applications, and its crew
pub record IsOpened (shards capacity workers : ℕ) (apps : Apps Shared) (a : Agent) : Type 0 where
  pub shards_are : shards_of a.desk ≡ shards
  pub empty : (s : ℕ) (l : Lock HalfView) → slice_get (locks_of a.desk) s ≡ Some l
      → table.IsNew s capacity (opened_with l)
  pub given : list.IsNew apps (opened_with a.rules.lock)
  pub manned : IsManned workers a.desk a.desk_pass a.rules a.rules_pass a.crew.items
