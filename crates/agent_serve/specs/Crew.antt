-- What the members of a crew did at their doors.
use Rattle.std.specs.Prelude.{◌≡◌, ◌≤◌, ℕ, List, Option, Bool, false, true}
use Rattle.waf_io.specs.Counts.{Rose}
use Rattle.turn_lock.specs.Lock.{share_of}
use Rattle.hall.specs.Passes.{IsPassOfHall}
use Rattle.conn_worker.specs.declared.peers.WorkEnd as end
use Rattle.conn_worker.specs.declared.peers.WorkEnd.TheVariants as ends
use Rattle.conn_worker.specs.Entries.{Hall, HallPass, IsPassOfShelf, Shelf, ShelfPass, shares_of}
use Rattle.conn_worker.specs.Desk.{Passes, passes}
use Rattle.conn_worker.specs.Worked.{CountsEnd, Sight, Worked}
use Rattle.agent_serve.specs.declared.member.Place.{Place}

abbrev pub Member : Type 0
Member = Place HallPass ShelfPass

abbrev pub passes_of : Member → Passes
passes_of m = passes m.desk_pass m.rules_pass

-- its passes are of this table and of this list
pub record IsMember (hall : Hall) (shelf : Shelf) (m : Member) : Type 0 where
  pub desk : IsPassOfHall hall m.desk_pass
  pub rules : IsPassOfShelf shelf m.rules_pass

-- its last door failed
abbrev pub is_failed : end.WorkEnd → Bool
is_failed ends.Closed = false
is_failed ends.DoorFault = true

-- what is told of doors and their peers
pub record DoorSight (D I O : Type 0) : Type 0 where
  pub left : D → Option (List (I × O))
  pub served : D → Option (List (I × O))
  pub is_out : D → Bool
  pub faults : D → ℕ
  pub closings : D → ℕ
  pub peer : Sight I O

abbrev pub door_sight : {D I O : Type 0} → (D → Option (List (I × O))) → (D → Option (List (I × O))) → (D → Bool)
    → (D → ℕ) → (D → ℕ) → Sight I O → DoorSight D I O
door_sight left served is_out faults closings peer = record {
  left = left;
  served = served;
  is_out = is_out;
  faults = faults;
  closings = closings;
  peer = peer;
}

-- a member served the peers of a door until it closed or failed, and is n now
pub record Did {D I O : Type 0} (hall : Hall) (shelf : Shelf) (told : Option ℕ) (size : ℕ) (sight : DoorSight D I O)
    (d e : D) (m n : Member) : Type 0 where
  pub home : sight.is_out e ≡ false
  pub member : IsMember hall shelf n
  pub desk_shares : shares_of n.desk_pass ≡ shares_of m.desk_pass
  pub rules_share : share_of n.rules_pass ≡ share_of m.rules_pass
  pub worked : Worked sight.peer told size (passes_of m) (passes_of n) (sight.left d) (sight.left e)
      (sight.served d) (sight.served e)
  pub later : sight.faults d ≤ sight.faults e
  pub cause : n.end ≡ ends.DoorFault → Rose (sight.faults d) (sight.faults e)
  pub closed : CountsEnd n.end (sight.closings d) (sight.closings e)
