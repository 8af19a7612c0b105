-- What a step of the loop does to the state that a connection stands for.
use Rattle.std.specs.Prelude.{◌≡◌, ℕ, true, List, [], ◌∷◌, ◌++◌, Option, Some, None}
use Rattle.waf_io.specs.Sink.{Adds}
use Rattle.waf_io.specs.declared.sink.Wrote as wrote
use Rattle.waf_io.specs.declared.sink.Wrote.TheVariants as wrotes
use Rattle.conn_core.specs.Calls.{out_of}
use Rattle.conn_core.specs.Stands.{ConnView, State, Stands, Closes, WaitsForBytes, fed, listens, served, shut}
use Rattle.conn_core.specs.Trace.{Needs, Write, held_by}
use Rattle.conn_loop.specs.declared.connection.ConnEnd as end
use Rattle.conn_loop.specs.declared.connection.ConnEnd.TheVariants as ends
use Rattle.conn_loop.specs.declared.connection.Progress as progress
use Rattle.conn_loop.specs.declared.connection.Progress.TheVariants as progresses
use Rattle.conn_loop.specs.Answered.{Step, Hosted, writes}
use Rattle.conn_loop.specs.Ends.{HasNeeds}

-- whether that is the end of the connection
abbrev pub end_of : progress.Progress → Option end.ConnEnd
end_of progresses.Waits = None
end_of (progresses.Closes how) = Some (ends.Closed how)
end_of progresses.Fails = Some ends.WriteFault

module _ {R P T : Type 0} where
  -- it holds no ticket
  abbrev pub IsFree : ConnView R P T → Type 0
  IsFree c = held_by c.hold ≡ []

  -- the same input of the same agent
  pub record Same (s t : State R P T) : Type 0 where
    pub size : t.size ≡ s.size
    pub input : t.input ≡ s.input
    pub ended : t.ended ≡ s.ended

  -- what was to be written was written
  pub record Written (c d : ConnView R P T) (before now : Option (List ℕ)) : Type 0 where
    pub next : (s : State R P T) → Stands c s → Stands d (served (Write (out_of c.stage)) s)
    pub stays : c.broken ≡ true → d.broken ≡ true
    pub added : Adds before (out_of c.stage) now

  -- a prefix of it was
  pub record CutOff (c d : ConnView R P T) (before now : Option (List ℕ)) : Type 0 where
    pub same : d ≡ c
    pub prefix : List ℕ
    pub rest : List ℕ
    pub is : prefix ++ rest ≡ out_of c.stage
    pub added : Adds before prefix now

  abbrev pub WritesOut : wrote.Wrote → ConnView R P T → ConnView R P T
      → Option (List ℕ) → Option (List ℕ) → Type 0
  WritesOut wrotes.All c d before now = Written c d before now
  WritesOut wrotes.Failed c d before now = CutOff c d before now

module _ {R P T Desk : Type 0} where
  -- it stands for a state whose replies are the host's since it stood on `first`, and its Writes were added
  pub record Runs (serves : Step R P T Desk) (first : Desk) (c : ConnView R P T) (s : State R P T) (desk : Desk)
      (old now : Option (List ℕ)) : Type 0 where
    pub stands : Stands c s
    pub hosted : Hosted c.broken serves first s.past s.replies desk
    pub added : Adds old (writes s.past) now

  -- it has run since a host stood somewhere, and a sink held something
  abbrev pub IsServing : Step R P T Desk → ConnView R P T → Desk → Option (List ℕ) → Type 0
  IsServing serves c desk now =
      (first : Desk) × (old : Option (List ℕ)) × (s : State R P T) × Runs serves first c s desk old now

  -- it goes on at a later state
  pub record GoesTo (serves : Step R P T Desk) (first : Desk) (s : State R P T) (d : ConnView R P T) (desk : Desk)
      (old now : Option (List ℕ)) : Type 0 where
    pub state : State R P T
    pub runs : Runs serves first d state desk old now
    pub same : Same s state

  abbrev pub Acts : Step R P T Desk → ConnView R P T → ConnView R P T
      → Desk → Desk → Option (List ℕ) → Option (List ℕ) → Type 0
  Acts serves c d a b before now =
      (first : Desk) (old : Option (List ℕ)) (s : State R P T) → Runs serves first c s a old before
      → GoesTo serves first s d b old now

  -- bytes are to be written next, of which a prefix was added
  pub record Fails (serves : Step R P T Desk) (first : Desk) (s : State R P T) (desk : Desk) (old now : Option (List ℕ))
      : Type 0 where
    pub past : Needs R P T
    pub prefix : List ℕ
    pub rest : List ℕ
    pub later : Needs R P T
    pub needs : HasNeeds serves first s.size s.input s.ended past (past ++ Write (prefix ++ rest) ∷ later) desk
    pub added : Adds old (writes past ++ prefix) now

  -- after a piece, or at the end of the input: it waits, or that was its end
  abbrev pub Heard : Option end.ConnEnd → Step R P T Desk → Desk → State R P T → ConnView R P T
      → Desk → Option (List ℕ) → Option (List ℕ) → Type 0
  Heard None serves first s d desk old now =
      (g : GoesTo serves first s d desk old now) × WaitsForBytes g.state × (listens d ≡ true)
  Heard (Some (ends.Closed how)) serves first s d desk old now =
      (g : GoesTo serves first s d desk old now) × Closes d g.state how
  Heard (Some ends.WriteFault) serves first s d desk old now = Fails serves first s desk old now
  Heard (Some ends.Spent) serves first s d desk old now = ⊥
  Heard (Some ends.ReadFault) serves first s d desk old now = ⊥
  Heard (Some ends.NoMemory) serves first s d desk old now = ⊥

  -- the same where all needs were done up to one for bytes, or the close
  abbrev pub Progresses : progress.Progress → Step R P T Desk → ConnView R P T → ConnView R P T
      → Desk → Desk → Option (List ℕ) → Option (List ℕ) → Type 0
  Progresses how serves c d a b before now =
      (first : Desk) (old : Option (List ℕ)) (s : State R P T) → Runs serves first c s a old before
      → Heard (end_of how) serves first s d b old now

  -- one need was done, or that was the last
  abbrev pub Stepped : Option progress.Progress → Step R P T Desk → ConnView R P T → ConnView R P T
      → Desk → Desk → Option (List ℕ) → Option (List ℕ) → Type 0
  Stepped None serves c d a b before now = Acts serves c d a b before now
  Stepped (Some how) serves c d a b before now = Progresses how serves c d a b before now

  abbrev pub Hears : List ℕ → Option end.ConnEnd → Step R P T Desk → ConnView R P T → ConnView R P T
      → Desk → Desk → Option (List ℕ) → Option (List ℕ) → Type 0
  Hears piece result serves c d a b before now =
      (first : Desk) (old : Option (List ℕ)) (s : State R P T) → Runs serves first c s a old before
      → Heard result serves first (fed c piece s) d b old now

  abbrev pub EndsHere : end.ConnEnd → Step R P T Desk → ConnView R P T → ConnView R P T
      → Desk → Desk → Option (List ℕ) → Option (List ℕ) → Type 0
  EndsHere result serves c d a b before now =
      (first : Desk) (old : Option (List ℕ)) (s : State R P T) → Runs serves first c s a old before
      → Heard (Some result) serves first (shut c s) d b old now
