-- The plain connection: what it needs over its whole input, given the replies that it gets.
use Rattle.std.specs.Prelude.{ℕ, zero, suc, ◌==◌, ◌||◌, Bool, true, false, List, [], ◌∷◌, ◌++◌, length, map, nat_lt, Option, Some, None, Result, Ok, Err, if◌then◌else◌}
use Rattle.std.specs.Str.{bytes_eq}
use Rattle.spop_data.specs.declared.value.Pair.{Pair}
use Rattle.spop_frame.specs.Head.{Head, NotYet, Bad, Whole, head_of}
use Rattle.spop_frame.specs.declared.frame.Frame.{Frame}
use Rattle.spop_frame.specs.declared.kind.TheConstants.{HAPROXY_HELLO, HAPROXY_DISCONNECT, NOTIFY, AGENT_HELLO, AGENT_DISCONNECT, ACK}
use Rattle.spop_frame.specs.declared.status.TheConstants.{INVALID, NORMAL, TOO_BIG}
use Rattle.spop_hello.specs.Frames.{agent_hello, disconnect}
use Rattle.spop_hello.specs.Terms.{terms_of}
use Rattle.spop_hello.specs.declared.terms.Terms.{Terms}
use Rattle.spop_talk.specs.Ack.{ack, ack_body}
use Rattle.spop_talk.specs.Reading.{messages_of}
use Rattle.spop_talk.specs.declared.ack.Action.{Action}
use Rattle.spop_talk.specs.declared.message.Message.{Message}
use Rattle.spop_web.specs.Answer.{request_message, response_message}
use Rattle.spop_web.specs.Reading.{first_bad}
use Rattle.spop_web.specs.Request.{asked_of, request_rules}
use Rattle.spop_web.specs.Response.{told_of, response_rules}
use Rattle.spop_web.specs.Values.{given, identifier_in}
use Rattle.spop_web.specs.declared.answer.AckError.{AckError}
use Rattle.spop_web.specs.declared.answer.AckError.TheVariants as errors
use Rattle.spop_web.specs.declared.argument.Arg.{Arg}
use Rattle.spop_web.specs.declared.argument.Arg.TheVariants as arguments
use Rattle.spop_web.specs.declared.request.Asked.{Asked}
use Rattle.spop_web.specs.declared.response.Told.{Told}
use Rattle.web_parts.specs.declared.transaction.Request.{Request}
use Rattle.web_parts.specs.declared.transaction.Response.{Response}
use Rattle.sec_ast.specs.declared.verdict.Verdict.{Verdict}
use Rattle.hall_core.specs.declared.Key.{Key}
use Rattle.conn_core.specs.declared.answer.Settings.{Settings}
use Rattle.conn_core.specs.declared.need.Closing as closing
use Rattle.conn_core.specs.declared.need.Closing.TheVariants as closings
use Rattle.conn_core.specs.declared.outcome.Outcome.TheVariants as outcomes
use Rattle.conn_core.specs.declared.stage.Hold.{Hold}
use Rattle.conn_core.specs.Outcome.{actions_of}

-- R is what stands for a set of rules, P a request that is half judged, T a ticket
pub data Need (R P T : Type 0) : Type 0 where
  Bytes : Need R P T
  Look : List ℕ → Need R P T  -- the application
  Enter : Key → Need R P T
  Begin : R → Request → Need R P T
  Park : T → ℕ → P → Need R P T  -- how long it stays
  Leave : T → Need R P T
  Resume : Key → Need R P T
  Finish : P → Response → Need R P T
  Retire : P → Need R P T
  Write : List ℕ → Need R P T
  Close : closing.Closing → Need R P T

-- the replies to Look, Enter, Begin, Resume and Finish
pub data Reply (R P T : Type 0) : Type 0 where
  Found : R → Settings → Reply R P T
  UnknownApp : Reply R P T
  Entered : T → Reply R P T
  Refused : AckError → Reply R P T  -- IdInUse, TableFull or Worn
  Interrupted : Verdict → Reply R P T
  Goes : P → Reply R P T
  Resumed : P → Reply R P T
  NotParked : Reply R P T
  Ended : Option Verdict → Reply R P T

-- the needs that come, the replies that are left, and what comes after a message with its actions
abbrev pub Needs : Type 0 → Type 0 → Type 0 → Type 0
Needs R P T = List (Need R P T)

abbrev pub Replies : Type 0 → Type 0 → Type 0 → Type 0
Replies R P T = List (Reply R P T)

abbrev pub Next : Type 0 → Type 0 → Type 0 → Type 0
Next R P T = List Action → Replies R P T → Needs R P T

-- the actions of a message with that identifier: an error, or what a judgement gave
abbrev pub failed : List ℕ → AckError → List Action
failed id error = actions_of (Some id) (outcomes.Failed error)

abbrev pub judged : List ℕ → Option Verdict → List Action
judged id None = actions_of (Some id) outcomes.Passed
judged id (Some verdict) = actions_of (Some id) (outcomes.Stopped verdict)

abbrev pub refused : List Pair → Arg → List Action
refused args bad = actions_of (identifier_in (given arguments.Id args)) (outcomes.Bad bad)

-- the ticket that is held
abbrev pub held_by : {T : Type 0} → Option (Hold T) → List T
held_by None = []
held_by (Some hold) = hold.ticket ∷ []

-- the kinds of the client's HELLO and of what agents send
abbrev pub is_misplaced : ℕ → Bool
is_misplaced kind = (kind == HAPROXY_HELLO) || (kind == AGENT_HELLO) || (kind == AGENT_DISCONNECT) || (kind == ACK)

-- the longest frame that is taken, before HELLO and after it
abbrev pub limit_of : ℕ → Option ℕ → ℕ
limit_of size None = size
limit_of size (Some agreed) = agreed

-- In each of these `k` is what comes after it: given the actions of the message, or the agreed size, and the replies
-- that are left. Where no reply is left, or one of another kind, the needs end with the one that waits.
module _ {R P T : Type 0} where
  -- the agent leaves with that status
  abbrev pub refuse : ℕ → Needs R P T
  refuse status = Write (disconnect status) ∷ Close (closings.Ended status) ∷ []

  -- the ticket of a request that entered the table is left
  abbrev pub leaves : Option (Hold T) → Needs R P T
  leaves hold = map Leave (held_by hold)

  -- a request that passed is parked under its ticket, or is over where it did not enter
  abbrev pub put_by : Option (Hold T) → P → Need R P T
  put_by None half = Retire half
  put_by (Some hold) half = Park hold.ticket hold.life half

  -- a request that is being judged, with what it holds where it entered the table
  abbrev pub begun : List ℕ → Option (Hold T) → Next R P T → Replies R P T → Needs R P T
  begun id hold k (Interrupted verdict ∷ later) = leaves hold ++ k (judged id (Some verdict)) later
  begun id hold k (Goes half ∷ later) = put_by hold half ∷ k (judged id None) later
  begun id hold k other = []

  -- one that enters the table
  abbrev pub entered : List ℕ → Request → R → ℕ → Next R P T → Replies R P T → Needs R P T
  entered id request rules life k (Entered ticket ∷ later) =
      Begin rules request ∷ begun id (Some (record { ticket = ticket; life = life })) k later
  entered id request rules life k (Refused error ∷ later) = k (failed id error) later
  entered id request rules life k other = []

  -- one whose application is looked for; it enters the table where responses are judged
  abbrev pub looked : List ℕ → Key → Request → Next R P T → Replies R P T → Needs R P T
  looked id key request k (UnknownApp ∷ later) = k (failed id errors.UnknownApp) later
  looked id key request k (Found rules settings ∷ later) =
      if settings.responses then Enter key ∷ entered id request rules settings.life k later
      else Begin rules request ∷ begun id None k later
  looked id key request k other = []

  abbrev pub asked : Asked → Next R P T → Replies R P T → Needs R P T
  asked a k replies = Look a.app ∷ looked a.request.id (record { app = a.app; id = a.request.id }) a.request k replies

  abbrev pub request : Option Arg → List Pair → Next R P T → Replies R P T → Needs R P T
  request (Some bad) args k replies = k (refused args bad) replies
  request None args k replies = asked (asked_of args) k replies

  -- a response that is being judged
  abbrev pub finished : List ℕ → Next R P T → Replies R P T → Needs R P T
  finished id k (Ended verdict ∷ later) = k (judged id verdict) later
  finished id k other = []

  -- one whose request is looked for
  abbrev pub resumed : List ℕ → Response → Next R P T → Replies R P T → Needs R P T
  resumed id response k (NotParked ∷ later) = k (failed id errors.NotParked) later
  resumed id response k (Resumed half ∷ later) = Finish half response ∷ finished id k later
  resumed id response k other = []

  abbrev pub told : Told → Next R P T → Replies R P T → Needs R P T
  told t k replies = Resume (record { app = t.app; id = t.id }) ∷ resumed t.id t.response k replies

  abbrev pub response : Option Arg → List Pair → Next R P T → Replies R P T → Needs R P T
  response (Some bad) args k replies = k (refused args bad) replies
  response None args k replies = told (told_of args) k replies

  -- a message, by its name; one of another name is passed over
  abbrev pub message : Message → Next R P T → Replies R P T → Needs R P T
  message m k replies =
      if bytes_eq m.name request_message then request (first_bad request_rules m.args) m.args k replies
      else (if bytes_eq m.name response_message then response (first_bad response_rules m.args) m.args k replies
      else k [] replies)

  -- the messages of a NOTIFY, after those that gave these actions
  abbrev pub messages : List Message → List Action → Next R P T → Replies R P T → Needs R P T
  messages [] actions k replies = k actions replies
  messages (m ∷ ms) actions k replies = message m (λ more later. messages ms (actions ++ more) k later) replies

  -- its ACK, which has to keep to the limit
  abbrev pub answer : ℕ → ℕ → ℕ → (Replies R P T → Needs R P T) → List Action → Replies R P T → Needs R P T
  answer limit stream frame k actions replies =
      if nat_lt limit (length (ack_body stream frame actions)) then refuse TOO_BIG
      else Write (ack stream frame actions) ∷ k replies

  abbrev pub notify : ℕ → Frame → (Replies R P T → Needs R P T) → Option (List Message) → Replies R P T → Needs R P T
  notify limit f k None replies = refuse INVALID
  notify limit f k (Some ms) replies = messages ms [] (answer limit f.stream f.frame k) replies

  -- the client's HELLO; a health check ends with the answer
  abbrev pub greeted : (ℕ → Needs R P T) → Result Terms ℕ → Needs R P T
  greeted k (Err status) = refuse status
  greeted k (Ok terms) = Write (agent_hello terms) ∷ (if terms.check then Close closings.Done ∷ [] else k terms.size)

  -- a frame before HELLO and one after it, by its kind
  abbrev pub any_frame : ℕ → Option ℕ → (Option ℕ → Replies R P T → Needs R P T) → Frame → Replies R P T → Needs R P T
  any_frame size None k f replies =
      if f.kind == HAPROXY_DISCONNECT then Write (disconnect NORMAL) ∷ Close closings.Done ∷ []
      else (if f.kind == HAPROXY_HELLO then greeted (λ agreed. k (Some agreed) replies) (terms_of size f.payload)
      else refuse INVALID)
  any_frame size (Some agreed) k f replies =
      if f.kind == HAPROXY_DISCONNECT then Write (disconnect NORMAL) ∷ Close closings.Done ∷ []
      else (if f.kind == NOTIFY then notify agreed f (k (Some agreed)) (messages_of f.payload) replies
      else (if is_misplaced f.kind then refuse INVALID else k (Some agreed) replies))

  -- where no frame is whole
  abbrev pub at_end : Bool → List ℕ → Needs R P T
  at_end false unread = Bytes ∷ []
  at_end true [] = Close closings.Done ∷ []
  at_end true (b ∷ bytes) = Close closings.CutShort ∷ []

  abbrev pub at_head : ℕ → Option ℕ → (List ℕ → Option ℕ → Replies R P T → Needs R P T) → Bool → List ℕ → Head
      → Replies R P T → Needs R P T
  at_head size agreed k ended unread NotYet replies = at_end ended unread
  at_head size agreed k ended unread (Bad status) replies = refuse status
  at_head size agreed k ended unread (Whole f rest) replies = any_frame size agreed (k rest) f replies

  -- the frames of what is unread, at most so many
  abbrev pub frames : ℕ → ℕ → Option ℕ → List ℕ → Bool → Replies R P T → Needs R P T
  frames zero size agreed unread ended replies = []
  frames (suc most) size agreed unread ended replies =
      at_head size agreed (λ rest now later. frames most size now rest ended later) ended unread
      (head_of (limit_of size agreed) unread) replies

  -- all of them: each takes a byte at least
  abbrev pub needs_from : ℕ → Option ℕ → List ℕ → Bool → Replies R P T → Needs R P T
  needs_from size agreed unread ended replies = frames (suc (length unread)) size agreed unread ended replies

  -- the needs, in order, of an agent that offers this size, over its whole input, which has ended or not
  unfoldable pub trace : ℕ → List ℕ → Bool → Replies R P T → Needs R P T
  trace size input ended replies = needs_from size None input ended replies
