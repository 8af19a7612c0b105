-- Doors in memory.
use Rattle.std.specs.Prelude.{◌≡◌, ◌-◌, ℕ, List, [], ◌∷◌, ◌++◌, length, take, Some, Bool, false, suc, zero}
use Rattle.waf_io.specs.Doors.{IsNew}
use Rattle.waf_io.specs.Schedule.{Failing, fails_at}
use Rattle.waf_io.specs.declared.doors.Opened as opened
use Rattle.waf_io.specs.declared.doors.Opened.TheVariants.{Doors, Failed, NoMemory}
use Rattle.waf_io.specs.declared.mem_doors.MemLane.{MemLane}

-- what a door in memory is seen as: the peers that are left, those that came back, whether one is out, and
-- how often it said that no peer comes any more
pub record Passing (P : Type 0) : Type 0 where
  pub left : List P
  pub served : List P
  pub is_out : Bool
  pub closings : ℕ

-- the same, where some calls are to fail
pub record FaultyPassing (P : Type 0) : Type 0 where
  pub passing : Passing P
  pub schedule : Failing

module _ {P : Type 0} where
  -- a door that was not used, before these peers
  abbrev pub new_door : List P → Passing P
  new_door peers = record { left = peers; served = []; is_out = false; closings = 0 }

  abbrev pub IsUnused : Passing P → Type 0
  IsUnused door = IsNew (λ d. Some d.served) (λ d. d.is_out) (λ d. 0) (λ d. d.closings) door

  abbrev pub IsUnusedFaulty : FaultyPassing P → Type 0
  IsUnusedFaulty door =
      IsNew (λ d. Some d.passing.served) (λ d. d.passing.is_out) (λ d. d.schedule.faults) (λ d. d.passing.closings) door

  -- a door before no peer, of which no call fails
  abbrev pub blank : FaultyPassing P
  blank = record { passing = new_door []; schedule = fails_at [] }

-- the door of a lane that was not used
abbrev pub door_of : {I O : Type 0} → MemLane I O → FaultyPassing (I × O)
door_of lane = record { passing = new_door lane.peers; schedule = fails_at lane.failing }

-- doors that were not opened yet, those that came back, and how many are out
pub record Stock (D : Type 0) : Type 0 where
  pub ready : List D
  pub returned : List D
  pub out : ℕ

-- the same, where some openings are to fail, and with the count of faults
pub record FaultyStock (D : Type 0) : Type 0 where
  pub stock : Stock D
  pub schedule : Failing
  pub faults : ℕ

abbrev pub copies : {D : Type 0} → ℕ → D → List D
copies zero door = []
copies (suc n) door = door ∷ copies n door

-- the first doors, and blank ones where there are too few
abbrev pub first_doors : {D : Type 0} → D → List D → ℕ → List D
first_doors blank ready count = take count (ready ++ copies (count - length ready) blank)

abbrev pub GivesDoors : {D : Type 0} → opened.Opened D → List D → Type 0
GivesDoors (Doors doors) wanted = doors ≡ wanted
GivesDoors Failed wanted = Unit {0}
GivesDoors NoMemory wanted = Unit {0}
