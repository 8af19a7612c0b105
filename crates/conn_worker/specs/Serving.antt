-- What a worker does for a need of a connection: the entries that are new in its passes' lists, and the replies.
use Rattle.std.specs.Prelude.{◌≡◌, ◌⊎◌, ℕ, ◌+◌, min, List, [], ◌∷◌, ◌++◌, length, IfSome}
use Rattle.std.specs.Arc.{arc_value}
use Rattle.sec_ast.specs.declared.verdict.LogLine.{LogLine}
use Rattle.spop_web.specs.declared.answer.AckError.TheVariants as errors
use Rattle.web_parts.specs.declared.transaction.Request.{Request}
use Rattle.web_parts.specs.declared.transaction.Response.{Response}
use Rattle.turn_lock.specs.History.{entry}
use Rattle.hall_core.specs.declared.Key.{Key}
use Rattle.hall_core.specs.declared.calls.Ticket.{Ticket}
use Rattle.hall_core.specs.declared.calls.Entry as entering
use Rattle.hall_core.specs.declared.calls.Entry.TheVariants as entries
use Rattle.hall_core.specs.declared.calls.Claim as claiming
use Rattle.hall_core.specs.declared.calls.Claim.TheVariants as claims
use Rattle.hall_core.specs.declared.calls.Expiry as expiring
use Rattle.hall_core.specs.declared.calls.Call.TheVariants as calls
use Rattle.hall_core.specs.declared.calls.Reply.TheVariants as answers
use Rattle.hall_core.specs.Shard.{shard_of}
use Rattle.shelf.specs.declared.apps.Settings as wishes
use Rattle.shelf.specs.declared.calls.Look as looking
use Rattle.shelf.specs.declared.calls.Look.TheVariants as looks
use Rattle.shelf.specs.declared.calls.Call.TheVariants as asked
use Rattle.shelf.specs.declared.calls.Reply.TheVariants as told
use Rattle.conn_core.specs.declared.answer.Settings.{Settings}
use Rattle.conn_core.specs.Trace as needs
use Rattle.tx_core.specs.declared.half.Begun as beginning
use Rattle.tx_core.specs.declared.half.Begun.TheVariants as beginnings
use Rattle.tx_core.specs.declared.half.Ended.{Ended}
use Rattle.tx_core.specs.HalfView.{HalfView}
use Rattle.tx_core.specs.Halves.{BeginsAs, EndsAs, RetiresAs}
use Rattle.conn_worker.specs.Entries.{Adds, HallEntry, Rules, Shared, ShelfEntry}
use Rattle.conn_worker.specs.Desk.{Desk}

abbrev pub Need : Type 0
Need = needs.Need Rules HalfView Ticket

abbrev pub Reply : Type 0
Reply = needs.Reply Rules HalfView Ticket

-- no moment is greater
abbrev pub last_moment : ℕ
last_moment = 18446744073709551615

abbrev pub later : ℕ → ℕ → ℕ
later moment life = min (moment + life) last_moment

-- what an application wants, as a connection is told
abbrev pub told_settings : wishes.Settings → Settings
told_settings wants = record { responses = wants.responses; life = wants.life }

-- the replies by what the list of applications, the table and the judge answered. That no memory was found is no reply
abbrev pub looked : looking.Look Shared → List Reply
looked (looks.Found n rules wants) = needs.Found (n, arc_value rules) (told_settings wants) ∷ []
looked (looks.UnknownApp n) = needs.UnknownApp ∷ []
looked looks.NoMemory = []

abbrev pub entry_reply : entering.Entry → Reply
entry_reply (entries.Entered ticket) = needs.Entered ticket
entry_reply (entries.IdInUse n) = needs.Refused errors.IdInUse
entry_reply (entries.Full n) = needs.Refused errors.TableFull
entry_reply (entries.Worn n) = needs.Refused errors.Worn

abbrev pub claim_reply : claiming.Claim HalfView → Reply
claim_reply (claims.Resumed n half) = needs.Resumed half
claim_reply claims.NotParked = needs.NotParked

abbrev pub begun_reply : beginning.Begun → Reply
begun_reply (beginnings.Interrupted verdict lines) = needs.Interrupted verdict
begun_reply (beginnings.Goes half lines) = needs.Goes half

-- A look is an entry with its reply, also where it found no memory for a share of the rules. There is none where there
-- was no memory for the name
abbrev pub IsLookedUp : List ℕ → List Reply → List ShelfEntry → List ShelfEntry → Type 0
IsLookedUp name mine old new = ((mine ≡ []) × (new ≡ old)) ⊎ ((answer : looking.Look Shared)
    × (mine ≡ looked answer) × (new ≡ old ++ entry (asked.Look name) (told.OfLook answer) ∷ []))

pub record Looks (old : Desk) (name : List ℕ) (mine : List Reply) (new : Desk) : Type 0 where
  pub looks : List ShelfEntry
  pub looked_up : IsLookedUp name mine old.looks looks
  pub is : new ≡ record old { looks = looks }

-- before it enters, what is due first on the shard of its key is claimed, at the moment that the clock shows
pub record Enters (old : Desk) (key : Key) (mine : List Reply) (new : Desk) : Type 0 where
  pub moment : ℕ
  pub shows : IfSome old.told (λ now. moment ≡ now)
  pub expiry : expiring.Expiry HalfView
  pub answer : entering.Entry
  pub replied : mine ≡ entry_reply answer ∷ []
  pub lists : List (List HallEntry)
  pub adds : Adds (shard_of (length old.lists) key)
      (entry (calls.Expire moment) (answers.OfExpire expiry) ∷ entry (calls.Enter key) (answers.OfEnter answer) ∷ [])
      old.lists lists
  pub is : new ≡ record old { lists = lists; moment = moment }

-- one entry came to the list of this shard
pub record AddsOne (old : Desk) (shard : ℕ) (e : HallEntry) (new : Desk) : Type 0 where
  pub lists : List (List HallEntry)
  pub adds : Adds shard (e ∷ []) old.lists lists
  pub is : new ≡ record old { lists = lists }

-- a judgement is no entry
abbrev pub IsBegun : Rules → Request → List Reply → Type 0
IsBegun rules request mine =
    (mine ≡ []) ⊎ ((begun : beginning.Begun) × BeginsAs rules.1 rules.0 request begun × (mine ≡ begun_reply begun ∷ []))

abbrev pub IsFinished : HalfView → Response → List Reply → Type 0
IsFinished half response mine =
    (mine ≡ []) ⊎ ((ended : Ended) × EndsAs half response ended × (mine ≡ needs.Ended ended.verdict ∷ []))

abbrev pub IsRetired : HalfView → Type 0
IsRetired half = (lines : List LogLine) × RetiresAs half lines

-- A need is met with these replies. A request is parked until the moment of the Expire before its Enter, with its life
-- added
abbrev pub Serves : Desk → Need → List Reply → Desk → Type 0
Serves old (needs.Look name) mine new = Looks old name mine new
Serves old (needs.Enter key) mine new = Enters old key mine new
Serves old (needs.Begin rules request) mine new = (new ≡ old) × IsBegun rules request mine
Serves old (needs.Park ticket life half) mine new = (mine ≡ [])
    × AddsOne old ticket.shard (entry (calls.Park ticket (later old.moment life) half) answers.OfPark) new
Serves old (needs.Leave ticket) mine new = (mine ≡ [])
    × AddsOne old ticket.shard (entry (calls.Leave ticket) answers.OfLeave) new
Serves old (needs.Resume key) mine new = (claim : claiming.Claim HalfView) × (mine ≡ claim_reply claim ∷ [])
    × AddsOne old (shard_of (length old.lists) key) (entry (calls.Resume key) (answers.OfResume claim)) new
Serves old (needs.Finish half response) mine new = (new ≡ old) × IsFinished half response mine
Serves old (needs.Retire half) mine new = (new ≡ old) × (mine ≡ []) × IsRetired half
Serves old need mine new = ⊥
