-- What was done for a connection when it is over: the needs of its trace, to which a host gave the replies.
use Rattle.std.specs.Prelude.{◌≡◌, ◌⊎◌, ℕ, Bool, true, false, List, [], ◌∷◌, ◌++◌, length, Option, Some}
use Rattle.waf_io.specs.Counts.{one_more}
use Rattle.waf_io.specs.Sink.{Adds}
use Rattle.spop_frame.specs.declared.status.TheConstants.{NO_MEMORY}
use Rattle.conn_core.specs.declared.need.Closing as closing
use Rattle.conn_core.specs.declared.need.Closing.TheVariants as closings
use Rattle.conn_core.specs.Stands.{IsBroken}
use Rattle.conn_core.specs.Trace.{Needs, Replies, Bytes, Write, Close, trace}
use Rattle.conn_loop.specs.declared.connection.ConnEnd as end
use Rattle.conn_loop.specs.declared.connection.ConnEnd.TheVariants as ends
use Rattle.conn_loop.specs.declared.connection.TheConstants.{MOST_BYTES}
use Rattle.conn_loop.specs.Answered.{Step, Answered, Starved, in_full, writes}

-- what a host stands on, the bytes that a source has left, where it tells them, how often it said that none are left,
-- and the bytes that a sink holds, where it tells them
pub record Around (Desk : Type 0) : Type 0 where
  pub desk : Desk
  pub left : Option (List ℕ)
  pub ends : ℕ
  pub held : Option (List ℕ)

abbrev pub around : {Desk : Type 0} → Desk → Option (List ℕ) → ℕ → Option (List ℕ) → Around Desk
around desk left count held = record { desk = desk; left = left; ends = count; held = held }

-- Of what the source had left these bytes were taken, and those are left. Nothing is said where it tells nothing.
abbrev pub IsTaken : Option (List ℕ) → Option (List ℕ) → List ℕ → List ℕ → Type 0
IsTaken first left taken rest = (input : List ℕ) → first ≡ Some input → (left ≡ Some rest) × (input ≡ taken ++ rest)

-- That the input has ended was heard where the source said so once, and then nothing is left. Else it never said so.
abbrev pub HasEnded : Bool → List ℕ → ℕ → ℕ → Type 0
HasEnded true rest before now = (rest ≡ []) × (now ≡ one_more before)
HasEnded false rest before now = now ≡ before

module _ {R P T Desk : Type 0} where
  -- `past` was done with each reply that is due, and for these replies the trace has these needs
  pub record Whole (serves : Step R P T Desk) (first : Desk) (size : ℕ) (input : List ℕ) (ended : Bool)
      (past needs : Needs R P T) (next : Desk) : Type 0 where
    pub replies : Replies R P T
    pub answered : Answered (in_full serves) first past replies next
    pub trace_is : trace size input ended replies ≡ needs

  -- the same out of memory, where these needs are those of a broken trace
  pub record BreaksOff (serves : Step R P T Desk) (first : Desk) (size : ℕ) (input : List ℕ) (ended : Bool)
      (past needs : Needs R P T) (next : Desk) : Type 0 where
    pub replies : Replies R P T
    pub starved : Starved serves first past replies next
    pub is : IsBroken (trace size input ended replies) replies needs

  -- the trace for what was taken, or a broken trace of it, has these needs, of which `past` was done
  abbrev pub HasNeeds : Step R P T Desk → Desk → ℕ → List ℕ → Bool → Needs R P T → Needs R P T → Desk → Type 0
  HasNeeds serves first size input ended past needs next =
      Whole serves first size input ended past needs next ⊎ BreaksOff serves first size input ended past needs next

  -- it closed, as it does for the whole input, which is what was taken and what is left, and for what it heard of it
  pub record Closed (serves : Step R P T Desk) (size : ℕ) (how : closing.Closing) (old new : Around Desk) : Type 0 where
    pub taken : List ℕ
    pub rest : List ℕ
    pub is_taken : IsTaken old.left new.left taken rest
    pub ended : Bool
    pub has_ended : HasEnded ended rest old.ends new.ends
    pub past : Needs R P T
    pub heard : Whole serves old.desk size taken ended past (past ++ Close how ∷ []) new.desk
    pub whole : Whole serves old.desk size (taken ++ rest) true past (past ++ Close how ∷ []) new.desk
    pub added : Adds old.held (writes past) new.held

  -- as many bytes were taken as are taken of one connection, and it waits for more
  pub record Spent (serves : Step R P T Desk) (size : ℕ) (old new : Around Desk) : Type 0 where
    pub taken : List ℕ
    pub rest : List ℕ
    pub is_taken : IsTaken old.left new.left taken rest
    pub goes_on : HasEnded false rest old.ends new.ends
    pub many : length taken ≡ MOST_BYTES
    pub past : Needs R P T
    pub whole : Whole serves old.desk size taken false past (past ++ Bytes ∷ []) new.desk
    pub added : Adds old.held (writes past) new.held

  -- it waits for bytes after those that were taken, and these could not be read
  pub record Unread (serves : Step R P T Desk) (size : ℕ) (old new : Around Desk) : Type 0 where
    pub taken : List ℕ
    pub rest : List ℕ
    pub is_taken : IsTaken old.left new.left taken rest
    pub goes_on : HasEnded false rest old.ends new.ends
    pub past : Needs R P T
    pub whole : Whole serves old.desk size taken false past (past ++ Bytes ∷ []) new.desk
    pub added : Adds old.held (writes past) new.held

  -- bytes were to be written next, and a write failed after a prefix of them
  pub record Unwritten (serves : Step R P T Desk) (size : ℕ) (old new : Around Desk) : Type 0 where
    pub taken : List ℕ
    pub rest : List ℕ
    pub is_taken : IsTaken old.left new.left taken rest
    pub ended : Bool
    pub has_ended : HasEnded ended rest old.ends new.ends
    pub past : Needs R P T
    pub prefix : List ℕ
    pub unwritten : List ℕ
    pub later : Needs R P T
    pub needs : HasNeeds serves old.desk size taken ended past (past ++ Write (prefix ++ unwritten) ∷ later) new.desk
    pub added : Adds old.held (writes past ++ prefix) new.held

  -- out of memory: it has done a broken trace of what was taken
  pub record Broken (serves : Step R P T Desk) (size : ℕ) (old new : Around Desk) : Type 0 where
    pub taken : List ℕ
    pub rest : List ℕ
    pub is_taken : IsTaken old.left new.left taken rest
    pub ended : Bool
    pub has_ended : HasEnded ended rest old.ends new.ends
    pub past : Needs R P T
    pub broken : BreaksOff serves old.desk size taken ended past
        (past ++ Close (closings.Ended NO_MEMORY) ∷ []) new.desk
    pub added : Adds old.held (writes past) new.held

  -- How a connection ended, of an agent that offers frames of that size. Where the source tells nothing there are
  -- bytes such that this holds of them.
  abbrev pub Serves : end.ConnEnd → Step R P T Desk → ℕ → Around Desk → Around Desk → Type 0
  Serves (ends.Closed how) serves size old new =
      Closed serves size how old new ⊎ ((how ≡ closings.Ended NO_MEMORY) × Broken serves size old new)
  Serves ends.Spent serves size old new = Spent serves size old new
  Serves ends.ReadFault serves size old new = Unread serves size old new
  Serves ends.WriteFault serves size old new = Unwritten serves size old new
  Serves ends.NoMemory serves size old new = new ≡ old
