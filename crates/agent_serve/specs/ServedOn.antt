-- What a running agent has done when it ends.
use Rattle.std.specs.Prelude.{◌≡◌, ◌⊎◌, ℕ, List, Option, length, if◌then◌else◌}
use Rattle.std.specs.List.{All, list_any}
use Rattle.waf_io.specs.Doors.{IsNew, KeepsAll}
use Rattle.sec_read.specs.FileWords.{Named}
use Rattle.crew.specs.Served.{Each}
use Rattle.turn_lock.specs.Lock.{share_of}
use Rattle.hall.specs.Passes.{IsPassOfHall}
use Rattle.conn_worker.specs.Entries.{Hall, HallPass, IsPassOfShelf, Shelf, ShelfPass, shares_of}
use Rattle.reports.specs.declared.exit_status.TheConstants.{DONE, DOOR_FAULT, OUT_OF_MEMORY, READ_FAULT, WRITE_FAULT}
use Rattle.control.specs.declared.obeying.ControlEnd as end
use Rattle.control.specs.declared.obeying.ControlEnd.TheVariants as ends
use Rattle.control.specs.Controlled.{Around, Controlled}
use Rattle.agent_serve.specs.Crew.{Did, DoorSight, Member, is_failed}

-- a fault of the input or of the output comes before that of a door
abbrev pub status_of : end.ControlEnd → List Member → ℕ
status_of ends.ReadFault crew = READ_FAULT
status_of ends.WriteFault crew = WRITE_FAULT
status_of other crew = if list_any (λ m. is_failed m.end) crew then DOOR_FAULT else DONE

-- what the side of the orders has done: by passes that were p and r, and are q and s
pub record Ordered (hall : Hall) (shelf : Shelf) (content : Option Named) (name : List ℕ) (how : end.ControlEnd)
    (p q : HallPass) (r s : ShelfPass) (a b : Around) : Type 0 where
  pub desk : IsPassOfHall hall q
  pub rules : IsPassOfShelf shelf s
  pub desk_shares : shares_of q ≡ shares_of p
  pub rules_share : share_of s ≡ share_of r
  pub controlled : Controlled content name how a b

module _ {D I O : Type 0} (hall : Hall) (shelf : Shelf) (told : Option ℕ) (size : ℕ) (sight : DoorSight D I O) where
  -- a door that was not used
  abbrev pub IsUnused : D → Type 0
  IsUnused door = IsNew sight.served sight.is_out sight.faults sight.closings door

  -- As many doors as members were opened. Each member served its own door, while the lines of the input were done, and
  -- the doors came back in the order in which they were opened.
  pub record Ran (content : Option Named) (name : List ℕ) (result : ℕ) (crew now : List Member)
      (returned since : Option (List D)) (a b : Around) : Type 0 where
    pub doors : List D
    pub count : length doors ≡ length crew
    pub unused : All IsUnused doors
    pub back : List D
    pub each : Each (λ number d e m n. Did hall shelf told size sight d e m n) 0 doors back crew now
    pub how : end.ControlEnd
    pub controlled : Controlled content name how a b
    pub kept : KeepsAll returned back since
    pub status : result ≡ status_of how now

  -- no door was opened, and nothing was done
  pub record Unopened (result : ℕ) (crew now : List Member) (returned since : Option (List D)) (a b : Around)
      : Type 0 where
    pub status : (result ≡ DOOR_FAULT) ⊎ (result ≡ OUT_OF_MEMORY)
    pub crew_is : now ≡ crew
    pub doors_are : since ≡ returned
    pub same : b ≡ a

  abbrev pub ServedOn : Option Named → List ℕ → ℕ → List Member → List Member → Option (List D) → Option (List D)
      → Around → Around → Type 0
  ServedOn content name result crew now returned since a b =
      Ran content name result crew now returned since a b ⊎ Unopened result crew now returned since a b
