-- What a worker has done when its door gives no peer any more.
use Rattle.std.specs.Prelude.{◌≡◌, ℕ, List, [], ◌∷◌, ◌++◌, map, Option, Some, None}
use Rattle.waf_io.specs.Counts.{Rose, one_more}
use Rattle.waf_io.specs.Doors.{KeepsAll}
use Rattle.conn_core.specs.declared.need.Closing as closing
use Rattle.conn_core.specs.declared.need.Closing.TheVariants as closings
use Rattle.conn_loop.specs.Ends.{Around, around}
use Rattle.conn_worker.specs.declared.peers.WorkEnd as end
use Rattle.conn_worker.specs.declared.peers.WorkEnd.TheVariants as ends
use Rattle.conn_worker.specs.Desk.{Passes}
use Rattle.conn_worker.specs.Served.{Served}

-- what is told of what a peer sends and of what it is sent
pub record Sight (I O : Type 0) : Type 0 where
  pub left : I → Option (List ℕ)
  pub ends : I → ℕ
  pub read_faults : I → ℕ
  pub held : O → Option (List ℕ)
  pub write_faults : O → ℕ

abbrev pub sight : {I O : Type 0} → (I → Option (List ℕ)) → (I → ℕ) → (I → ℕ) → (O → Option (List ℕ)) → (O → ℕ) → Sight I O
sight left ends read_faults held write_faults =
    record { left = left; ends = ends; read_faults = read_faults; held = held; write_faults = write_faults }

-- a peer as the door gave it and as it came back, and how its connection closed
pub record Visit (I O : Type 0) : Type 0 where
  pub came : I × O
  pub went : I × O
  pub how : closing.Closing

-- all of these were given, where it is told
abbrev pub TakesAll : {A : Type 0} → List A → Option (List A) → Option (List A) → Type 0
TakesAll peers (Some left) now = (rest : List _) × (left ≡ peers ++ rest) × (now ≡ Some rest)
TakesAll peers None now = now ≡ None

-- the count of closings rises at Closed alone
abbrev pub CountsEnd : end.WorkEnd → ℕ → ℕ → Type 0
CountsEnd ends.Closed before now = now ≡ one_more before
CountsEnd ends.DoorFault before now = now ≡ before

abbrev pub CountsNext : Option end.WorkEnd → ℕ → ℕ → Type 0
CountsNext None before now = now ≡ before
CountsNext (Some how) before now = CountsEnd how before now

module _ {I O : Type 0} (sight : Sight I O) where
  abbrev pub at_peer : Passes → I × O → Around Passes
  at_peer p peer = around p (sight.left peer.0) (sight.ends peer.0) (sight.held peer.1)

  -- a connection closes for a fault only where that was counted
  pub record IsCaused (v : Visit I O) : Type 0 where
    pub read : v.how ≡ closings.ReadFault → Rose (sight.read_faults v.came.0) (sight.read_faults v.went.0)
    pub write : v.how ≡ closings.WriteFault → Rose (sight.write_faults v.came.1) (sight.write_faults v.went.1)

  -- these peers were served, one after the other, by passes that were p first and are q now
  abbrev pub Visited : Option ℕ → ℕ → Passes → List (Visit I O) → Passes → Type 0
  Visited told size p [] q = q ≡ p
  Visited told size p (v ∷ visits) q = (mid : Passes) × Served told size v.how (at_peer p v.came) (at_peer mid v.went)
      × IsCaused v × Visited told size mid visits q

  -- the peers that a door gave were served, and came back as they were then
  pub record Worked (told : Option ℕ) (size : ℕ) (p q : Passes) (left still : Option (List (I × O)))
      (served now : Option (List (I × O))) : Type 0 where
    pub visits : List (Visit I O)
    pub visited : Visited told size p visits q
    pub came : TakesAll (map (λ v. v.came) visits) left still
    pub went : KeepsAll served (map (λ v. v.went) visits) now
