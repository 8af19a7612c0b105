-- What a worker's passes own.
use Rattle.std.specs.Prelude.{ℕ, List, Option}
use Rattle.turn_lock.specs.Lock.{own_of, share_of}
use Rattle.conn_worker.specs.Entries.{Hall, HallEntry, HallPass, Shelf, ShelfEntry, ShelfPass, lists_of, shares_of}

-- the passes of a worker: of the table, and of the list of applications
pub record Passes : Type 0 where
  pub desk : HallPass
  pub rules : ShelfPass

abbrev pub passes : HallPass → ShelfPass → Passes
passes desk rules = record { desk = desk; rules = rules }

-- the entries of the list of applications and of each shard that are the worker's own, the moment of its last Expire,
-- and the moment that its clock shows, where that is told
pub record Desk : Type 0 where
  pub looks : List ShelfEntry
  pub lists : List (List HallEntry)
  pub moment : ℕ
  pub told : Option ℕ

abbrev pub desk_of : Option ℕ → ℕ → Passes → Desk
desk_of told moment p = record { looks = own_of p.rules; lists = lists_of p.desk; moment = moment; told = told }

-- the table and the list that a worker shares with others, its clock, which passes it borrows, and their shares
pub record Stand : Type 0 where
  pub hall : Hall
  pub shelf : Shelf
  pub told : Option ℕ
  pub desk_name : ℕ
  pub rules_name : ℕ
  pub desk_shares : List ℕ
  pub rules_share : ℕ
