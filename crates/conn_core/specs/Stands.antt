-- When a connection stands for a state of the definition.
use Rattle.std.specs.Prelude.{◌≡◌, ◌⊎◌, ℕ, ◌+◌, ◌*◌, Bool, true, false, cond, not, ◌||◌, Option, Some, None, List, [], ◌∷◌, ◌++◌, length, drop, map}
use Rattle.spop_frame.specs.Head.{NotYet, head_of}
use Rattle.spop_frame.specs.declared.frame.Frame.{Frame}
use Rattle.spop_frame.specs.declared.status.TheConstants.{NO_MEMORY}
use Rattle.spop_hello.specs.Frames.{disconnect}
use Rattle.spop_talk.specs.declared.ack.Action.{Action}
use Rattle.spop_talk.specs.declared.message.Message.{Message}
use Rattle.conn_core.specs.declared.need.Closing as closing
use Rattle.conn_core.specs.declared.need.Closing.TheVariants as closings
use Rattle.conn_core.specs.declared.stage.Hold.{Hold}
use Rattle.conn_core.specs.declared.stage.Stage.{Stage}
use Rattle.conn_core.specs.declared.stage.Stage.TheVariants as at
use Rattle.conn_core.specs.Trace.{Need, Needs, Bytes, Look, Enter, Begin, Park, Leave, Resume, Finish, Retire, Write, Close, Reply, Replies, Next, Entered, held_by, leaves, put_by, judged, begun, entered, looked, finished, resumed, messages, answer, limit_of, needs_from, any_frame, trace}

-- a state of the definition: the input so far, whether it has ended, the replies so far, and the needs that are done
pub record State (R P T : Type 0) : Type 0 where
  pub size : ℕ
  pub input : List ℕ
  pub ended : Bool
  pub replies : Replies R P T
  pub past : Needs R P T

-- what a connection is seen as
pub record ConnView (R P T : Type 0) : Type 0 where
  pub size : ℕ
  pub agreed : Option ℕ
  pub unread : List ℕ
  pub ended : Bool
  pub stage : Stage R P
  pub hold : Option (Hold T)
  pub stream : ℕ  -- of the NOTIFY that is being answered, as are the next three
  pub frame : ℕ
  pub left : List Message
  pub actions : List Action
  pub broken : Bool

-- the calls that an unread byte, or a message that is left, can take
abbrev pub calls_each : ℕ
calls_each = 16

abbrev pub is_held : {T : Type 0} → Option (Hold T) → Bool
is_held None = false
is_held (Some hold) = true

-- a ticket is held only from the time that a request has it until it is parked or left
abbrev pub Holds : {R P T : Type 0} → Stage R P → Option (Hold T) → Type 0
Holds (at.Begin id request rules) hold = Unit {0}
Holds (at.Begun id) hold = Unit {0}
Holds (at.Park id half) hold = is_held hold ≡ true
Holds (at.Leave id verdict) hold = is_held hold ≡ true
Holds at.LastLeave hold = is_held hold ≡ true
Holds stage hold = is_held hold ≡ false

module _ {R P : Type 0} where
  -- nothing comes after the end of an input at which it closed
  abbrev pub hears : Stage R P → Bool → Bool
  hears (at.Close how) ended = not ended
  hears stage ended = true

  -- at Close, and once it is out of memory, no more input is heard
  abbrev pub is_open : Stage R P → Bool
  is_open (at.Close how) = false
  is_open stage = true

  -- what is left of a broken trace
  abbrev pub IsEnding : Stage R P → Type 0
  IsEnding at.LastLeave = Unit {0}
  IsEnding at.LastWrite = Unit {0}
  IsEnding (at.Close how) = Unit {0}
  IsEnding stage = ⊥

  -- the values of a need were taken, and its answer was not given yet
  abbrev pub IsTaken : Stage R P → Type 0
  IsTaken (at.Entering id request rules life) = Unit {0}
  IsTaken (at.Begun id) = Unit {0}
  IsTaken (at.Retiring id) = Unit {0}
  IsTaken (at.Resuming id response) = Unit {0}
  IsTaken (at.Finishing id) = Unit {0}
  IsTaken stage = ⊥

  -- a number for the stage in the bound on the calls
  abbrev pub rank : Stage R P → ℕ
  rank (at.Look id key request) = 12
  rank (at.Enter id key request rules life) = 11
  rank (at.Entering id request rules life) = 10
  rank (at.Begin id request rules) = 9
  rank (at.Begun id) = 8
  rank (at.Resume id key response) = 10
  rank (at.Resuming id response) = 9
  rank (at.Finish id half response) = 8
  rank (at.Finishing id) = 7
  rank (at.Retire id half) = 7
  rank (at.Retiring id) = 6
  rank (at.Park id half) = 6
  rank (at.Leave id verdict) = 6
  rank at.Ready = 5
  rank (at.Write bytes None) = 4
  rank at.Bytes = 3
  rank at.LastLeave = 2
  rank (at.Write bytes (Some how)) = 1
  rank at.LastWrite = 1
  rank (at.Close how) = 0

module _ {R P T : Type 0} where
  -- the opening state
  abbrev pub opening : ℕ → State R P T
  opening size = record { size = size; input = []; ended = false; replies = []; past = [] }

  -- a need is done
  abbrev pub served : Need R P T → State R P T → State R P T
  served n s = record { size = s.size; input = s.input; ended = s.ended; replies = s.replies; past = s.past ++ n ∷ [] }

  -- a reply is given
  abbrev pub replied : Reply R P T → State R P T → State R P T
  replied r s = record { size = s.size; input = s.input; ended = s.ended; replies = s.replies ++ r ∷ []; past = s.past }

  -- what a connection that is out of memory does last
  abbrev pub last : Needs R P T
  last = Write (disconnect NO_MEMORY) ∷ Close (closings.Ended NO_MEMORY) ∷ []

  -- what is left, by where it stands and what it holds: `k` goes on after a message with its actions, `r` at the next
  -- message, `f` at the next frame
  abbrev pub left_at : Stage R P → Option (Hold T) → Next R P T
      → (Replies R P T → Needs R P T) → (Replies R P T → Needs R P T) → Replies R P T → Needs R P T
  left_at at.Bytes hold k r f later = f later
  left_at at.Ready hold k r f later = r later
  left_at (at.Look id key request) hold k r f later = Look key.app ∷ looked id key request k later
  left_at (at.Enter id key request rules life) hold k r f later = Enter key ∷ entered id request rules life k later
  left_at (at.Entering id request rules life) hold k r f later = entered id request rules life k later
  left_at (at.Begin id request rules) hold k r f later = Begin rules request ∷ begun id hold k later
  left_at (at.Begun id) hold k r f later = begun id hold k later
  left_at (at.Park id half) hold k r f later = put_by hold half ∷ k (judged id None) later
  left_at (at.Leave id verdict) hold k r f later = leaves hold ++ k (judged id (Some verdict)) later
  left_at (at.Retire id half) hold k r f later = Retire half ∷ k (judged id None) later
  left_at (at.Retiring id) hold k r f later = k (judged id None) later
  left_at (at.Resume id key response) hold k r f later = Resume key ∷ resumed id response k later
  left_at (at.Resuming id response) hold k r f later = resumed id response k later
  left_at (at.Finish id half response) hold k r f later = Finish half response ∷ finished id k later
  left_at (at.Finishing id) hold k r f later = finished id k later
  left_at (at.Write bytes None) hold k r f later = Write bytes ∷ f later
  left_at (at.Write bytes (Some how)) hold k r f later = Write bytes ∷ Close how ∷ []
  left_at at.LastLeave hold k r f later = leaves hold ++ last
  left_at at.LastWrite hold k r f later = last
  left_at (at.Close how) hold k r f later = Close how ∷ []

  -- with what is unread, whether the input has ended by then, and the replies that come yet
  abbrev pub left_with : ConnView R P T → List ℕ → Bool → Replies R P T → Needs R P T
  left_with c unread ended =
      let f = needs_from {R = R} {P = P} {T = T} c.size c.agreed unread ended in
      let r = λ (actions : List Action).
      messages {R = R} {P = P} {T = T} c.left actions (answer (limit_of c.size c.agreed) c.stream c.frame f) in
      left_at c.stage c.hold (λ actions. r (c.actions ++ actions)) (r c.actions) f

  -- with the input that comes yet
  abbrev pub left_of : ConnView R P T → List ℕ → Bool → Replies R P T → Needs R P T
  left_of c more ended = left_with c (c.unread ++ more) ended

  -- however it goes on, the needs are those that are done, and then those that are left
  pub record Going (c : ConnView R P T) (s : State R P T) : Type 0 where
    pub is : (more : List ℕ) (ends : Bool) (later : Replies R P T) →
        trace s.size (s.input ++ cond (hears c.stage c.ended) more [])
        (cond (hears c.stage c.ended) ends false || s.ended) (s.replies ++ later)
        ≡ s.past ++ left_of c more (ends || c.ended) later

  -- the tickets that were given, those that were parked or left, and the one that is held
  abbrev pub tickets_in : Replies R P T → List T
  tickets_in [] = []
  tickets_in (Entered ticket ∷ replies) = ticket ∷ tickets_in replies
  tickets_in (r ∷ replies) = tickets_in replies

  abbrev pub spent_in : Needs R P T → List T
  spent_in [] = []
  spent_in (Park ticket life half ∷ past) = ticket ∷ spent_in past
  spent_in (Leave ticket ∷ past) = ticket ∷ spent_in past
  spent_in (n ∷ past) = spent_in past

  -- it goes on as the definition does, and holds the ticket that is open
  pub record Plain (c : ConnView R P T) (s : State R P T) : Type 0 where
    pub going : Going c s
    pub tickets : tickets_in s.replies ≡ spent_in s.past ++ held_by c.hold
    pub ended : c.ended ≡ s.ended

  -- this frame was taken off, and it goes on at it
  pub record Framed (f : Frame) (c : ConnView R P T) (s : State R P T) : Type 0 where
    pub is : (more : List ℕ) (ends : Bool) (later : Replies R P T) →
        trace s.size (s.input ++ more) (ends || s.ended) (s.replies ++ later)
        ≡ s.past ++ any_frame c.size c.agreed
        (λ agreed. needs_from c.size agreed (c.unread ++ more) (ends || c.ended)) f later
    pub tickets : tickets_in s.replies ≡ spent_in s.past ++ held_by c.hold
    pub ended : c.ended ≡ s.ended

  -- A broken trace: a prefix of the trace, then each ticket that is open is left, DISCONNECT 13 is written,
  -- and that is the end
  pub record IsBroken (whole : Needs R P T) (replies : Replies R P T) (needs : Needs R P T) : Type 0 where
    pub front : Needs R P T
    pub rest : Needs R P T
    pub whole_is : whole ≡ front ++ rest
    pub is : needs ≡ front ++ (map Leave (drop (length (spent_in front)) (tickets_in replies)) ++ last)

  -- what is left of one
  abbrev pub ending : Stage R P → Option (Hold T) → Needs R P T
  ending at.LastLeave hold = leaves hold ++ last
  ending at.LastWrite hold = last
  ending (at.Close how) hold = Close how ∷ []
  ending stage hold = []

  -- it does what is left of one, and holds the ticket that is open
  pub record Broken (c : ConnView R P T) (s : State R P T) : Type 0 where
    pub trace_is : IsBroken (trace s.size s.input s.ended s.replies) s.replies (s.past ++ ending c.stage c.hold)
    pub ending_is : IsEnding c.stage
    pub tickets : tickets_in s.replies ≡ spent_in s.past ++ held_by c.hold

  -- whole, or broken: out of memory
  abbrev pub StandsAs : Bool → ConnView R P T → State R P T → Type 0
  StandsAs false c s = Plain c s
  StandsAs true c s = Broken c s

  -- it waits for bytes only where no head is whole and more may come
  abbrev pub Waits : Stage R P → ConnView R P T → Type 0
  Waits at.Bytes c = (head_of (limit_of c.size c.agreed) c.unread ≡ NotYet) × (c.ended ≡ false)
  Waits at.LastLeave c = c.broken ≡ true
  Waits at.LastWrite c = c.broken ≡ true
  Waits at.Ready c = ⊥
  Waits (at.Entering id request rules life) c = ⊥
  Waits (at.Begun id) c = ⊥
  Waits (at.Retiring id) c = ⊥
  Waits (at.Resuming id response) c = ⊥
  Waits (at.Finishing id) c = ⊥
  Waits stage c = Unit {0}

  -- between two calls
  pub record Stands (c : ConnView R P T) (s : State R P T) : Type 0 where
    pub waits : Waits c.stage c
    pub stands : StandsAs c.broken c s

  pub record Taken (c : ConnView R P T) (s : State R P T) : Type 0 where
    pub taken : IsTaken c.stage
    pub stands : StandsAs c.broken c s

  -- it is still to be answered, as it was; or out of memory for a piece of the input, and then it can't be
  abbrev pub StillTaken : ConnView R P T → ConnView R P T → State R P T → Type 0
  StillTaken c d s = (d.stage ≡ c.stage) × (d.broken ≡ false) × Taken d s

  abbrev pub TakenOrLost : ConnView R P T → ConnView R P T → State R P T → Type 0
  TakenOrLost c d s = StillTaken c d s ⊎ ((d.broken ≡ true) × Stands d s)

  -- the trace ends in Bytes, and the input has not ended
  pub record WaitsForBytes (s : State R P T) : Type 0 where
    pub on : s.ended ≡ false
    pub trace_is : trace s.size s.input s.ended s.replies ≡ s.past ++ Bytes ∷ []

  -- How it ends: as the definition does, and where the input has not ended so whatever comes; or as a broken trace
  pub record Closes (c : ConnView R P T) (s : State R P T) (how : closing.Closing) : Type 0 where
    pub plain : c.broken ≡ false → trace s.size s.input s.ended s.replies ≡ s.past ++ Close how ∷ []
    pub whatever : c.broken ≡ false → s.ended ≡ false → (more : List ℕ) (ends : Bool)
        → trace s.size (s.input ++ more) ends s.replies ≡ s.past ++ Close how ∷ []
    pub broke : c.broken ≡ true → IsBroken (trace s.size s.input s.ended s.replies) s.replies (s.past ++ Close how ∷ [])

  abbrev pub listens : ConnView R P T → Bool
  listens c = cond c.broken false (is_open c.stage)

  -- the input grows, or has ended
  abbrev pub fed : ConnView R P T → List ℕ → State R P T → State R P T
  fed c piece s =
      cond (listens c)
      (record { size = s.size; input = s.input ++ piece; ended = s.ended; replies = s.replies; past = s.past }) s

  abbrev pub shut : ConnView R P T → State R P T → State R P T
  shut c s =
      cond (listens c) (record { size = s.size; input = s.input; ended = true; replies = s.replies; past = s.past }) s

  -- A bound on the calls until it needs bytes or closes: so many for each unread byte and each message that is left,
  -- and a number for the stage
  abbrev pub calls_left : ConnView R P T → ℕ
  calls_left c = calls_each * (length c.unread + length c.left) + rank c.stage

  -- the same where this frame was taken off
  abbrev pub calls_at : Frame → ConnView R P T → ℕ
  calls_at f c = calls_each * (length c.unread + length c.left + (1 + length f.payload))
