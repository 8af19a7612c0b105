-- What a host does for the needs of a connection: at each a step of what it stands on, with the replies that it gave.
use Rattle.std.specs.Prelude.{◌≡◌, ◌⊎◌, ℕ, Bool, true, false, List, [], ◌∷◌, ◌++◌, length}
use Rattle.std.specs.List.{flat_map}
use Rattle.conn_core.specs.declared.answer.BegunAnswer as beginnings
use Rattle.conn_core.specs.declared.answer.BegunAnswer.TheVariants as beguns
use Rattle.conn_core.specs.declared.answer.EndedAnswer as endings
use Rattle.conn_core.specs.declared.answer.EndedAnswer.TheVariants as ends
use Rattle.conn_core.specs.declared.answer.LookAnswer as lookings
use Rattle.conn_core.specs.declared.answer.LookAnswer.TheVariants as looks
use Rattle.conn_core.specs.Trace.{Need, Needs, Bytes, Look, Enter, Begin, Resume, Finish, Retire, Write, Close, Replies, Found, UnknownApp, Interrupted, Goes, Ended}

-- what it stands on, a need, the replies to it, and what it stands on then
abbrev pub Step : Type 0 → Type 0 → Type 0 → Type 0 → Type 1
Step R P T Desk = Desk → Need R P T → Replies R P T → Desk → Type 0

module _ {R P T : Type 0} where
  -- that no memory was found is no reply
  abbrev pub look_replies : lookings.LookAnswer R → Replies R P T
  look_replies (looks.Found rules settings) = Found rules settings ∷ []
  look_replies looks.UnknownApp = UnknownApp ∷ []
  look_replies looks.NoMemory = []

  abbrev pub begun_replies : beginnings.BegunAnswer P → Replies R P T
  begun_replies (beguns.Interrupted verdict) = Interrupted verdict ∷ []
  begun_replies (beguns.Goes half) = Goes half ∷ []
  begun_replies beguns.NoMemory = []

  abbrev pub ended_replies : endings.EndedAnswer → Replies R P T
  ended_replies (ends.Verdict verdict) = Ended verdict ∷ []
  ended_replies ends.NoMemory = []

  -- how many replies are due to a need
  abbrev pub due : Need R P T → ℕ
  due (Look app) = 1
  due (Enter key) = 1
  due (Begin rules request) = 1
  due (Resume key) = 1
  due (Finish half response) = 1
  due other = 0

  -- the bytes of the Writes
  abbrev pub bytes_of : Need R P T → List ℕ
  bytes_of (Write bytes) = bytes
  bytes_of other = []

  abbrev pub writes : Needs R P T → List ℕ
  writes needs = flat_map bytes_of needs

  -- What the host was asked for without a reply: the needs that were done without one. A Look that found no memory
  -- is not done, and comes before them. A Retire that found none is done, and it is as if the host was not asked.
  abbrev pub IsAsked : Needs R P T → Needs R P T → Type 0
  IsAsked unreplied asked =
      (asked ≡ unreplied) ⊎ ((app : List ℕ) × (asked ≡ Look app ∷ unreplied))
      ⊎ ((half : P) × (unreplied ≡ Retire half ∷ asked))

module _ {R P T Desk : Type 0} where
  -- bytes, writes and the close are no matter of the host
  abbrev pub Takes : Step R P T Desk → Desk → Need R P T → Replies R P T → Desk → Type 0
  Takes serves desk Bytes mine next = (mine ≡ []) × (next ≡ desk)
  Takes serves desk (Write bytes) mine next = (mine ≡ []) × (next ≡ desk)
  Takes serves desk (Close how) mine next = (mine ≡ []) × (next ≡ desk)
  Takes serves desk need mine next = serves desk need mine next

  -- these needs, one after the other, got these replies, and led from one desk to the other
  abbrev pub Answered : Step R P T Desk → Desk → Needs R P T → Replies R P T → Desk → Type 0
  Answered serves desk [] replies next = (replies ≡ []) × (next ≡ desk)
  Answered serves desk (need ∷ needs) replies next =
      (mine : Replies R P T) × (mid : Desk) × (later : Replies R P T) × (replies ≡ mine ++ later)
      × Takes serves desk need mine mid × Answered serves mid needs later next

  -- with each reply that is due
  abbrev pub in_full : Step R P T Desk → Step R P T Desk
  in_full serves desk need mine next = serves desk need mine next × (length mine ≡ due need)

  -- out of memory: the first needs got all their replies, and what was asked for after them got none
  pub record Starved (serves : Step R P T Desk) (desk : Desk) (past : Needs R P T) (replies : Replies R P T)
      (next : Desk) : Type 0 where
    pub replied : Needs R P T
    pub unreplied : Needs R P T
    pub past_is : past ≡ replied ++ unreplied
    pub mid : Desk
    pub answered : Answered (in_full serves) desk replied replies mid
    pub asked : Needs R P T
    pub asked_is : IsAsked unreplied asked
    pub unanswered : Answered serves mid asked [] next

  -- what a host did for a connection that is whole, or out of memory
  abbrev pub Hosted : Bool → Step R P T Desk → Desk → Needs R P T → Replies R P T → Desk → Type 0
  Hosted false serves desk past replies next = Answered (in_full serves) desk past replies next
  Hosted true serves desk past replies next = Starved serves desk past replies next
