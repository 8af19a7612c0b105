-- What the one connection of `once` stands on, and what it answers to each need: the rules of one listing, one table of
-- transactions, and the judge.
use Rattle.std.specs.Prelude.{◌≡◌, ◌⊎◌, true, List, [], ◌∷◌, Option, Some, None}
use Rattle.spop_web.specs.declared.answer.AckError.TheVariants as errors
use Rattle.web_parts.specs.declared.transaction.Request.{Request}
use Rattle.web_parts.specs.declared.transaction.Response.{Response}
use Rattle.sec_ast.specs.declared.listing.Listing.{Listing}
use Rattle.sec_ast.specs.declared.verdict.Verdict.{Verdict}
use Rattle.sec_meaning.specs.Judgement.{judge}
use Rattle.tx_core.specs.HalfView.{HalfView}
use Rattle.hall_core.specs.declared.calls.Call.TheVariants as calls
use Rattle.hall_core.specs.declared.calls.Claim as claims
use Rattle.hall_core.specs.declared.calls.Claim.TheVariants as claim
use Rattle.hall_core.specs.declared.calls.Entry as entries
use Rattle.hall_core.specs.declared.calls.Entry.TheVariants as entry
use Rattle.hall_core.specs.declared.calls.Reply.TheVariants as table
use Rattle.hall_core.specs.declared.calls.Ticket.{Ticket}
use Rattle.hall_core.specs.Acted.{Acted}
use Rattle.hall_core.specs.State.{State}
use Rattle.hall_core.specs.Step.{may}
use Rattle.conn_core.specs.Trace as trace
use Rattle.conn_core.specs.Trace.{Look, Enter, Begin, Park, Leave, Resume, Finish}
use Rattle.agent_main.specs.declared.judge.TheConstants.{CAPACITY, LIFE, SHARD}
use Rattle.agent_main.specs.declared.judge.TheRules.{TheRules}
use Rattle.agent_main.specs.declared.verdicts.TheConstants.{GENERATION}

abbrev pub Need : Type 0
Need = trace.Need TheRules HalfView Ticket

abbrev pub Reply : Type 0
Reply = trace.Reply TheRules HalfView Ticket

abbrev pub Table : Type 0
Table = State HalfView

-- the rules, and the table of the requests that run or wait for their response
pub record Desk : Type 0 where
  pub rules : Listing
  pub table : Table

-- at first the table is empty
abbrev pub opening : Listing → Desk
opening rules =
    record { rules = rules; table = record { shard = SHARD; capacity = CAPACITY; given = 0; rows = [] } }

-- every application has the rules, and its responses are judged
abbrev pub found : Reply
found = trace.Found (record {}) (record { responses = true; life = LIFE })

-- the first verdict; where there is none, the request goes on under these rules
abbrev pub begun : Listing → Request → Option Verdict → Reply
begun rules request None = trace.Goes (record { generation = GENERATION; listing = rules; request = request })
begun rules request (Some verdict) = trace.Interrupted verdict

-- a request is judged alone
abbrev pub judged : Listing → Request → Reply
judged rules request = begun rules request (judge rules request None).first

-- a response is judged with its request, by the rules of that request
abbrev pub ended : HalfView → Response → Reply
ended half response = trace.Ended (judge half.listing half.request (Some response)).second

-- what the table answers to a request, and to a response
abbrev pub entered : entries.Entry → Reply
entered (entry.Entered ticket) = trace.Entered ticket
entered (entry.IdInUse number) = trace.Refused errors.IdInUse
entered (entry.Full rows) = trace.Refused errors.TableFull
entered (entry.Worn number) = trace.Refused errors.Worn

abbrev pub claimed : claims.Claim HalfView → Reply
claimed (claim.Resumed number half) = trace.Resumed half
claimed claim.NotParked = trace.NotParked

-- this reply was given, or none, out of memory
abbrev pub Given : List Reply → Reply → Type 0
Given mine reply = (mine ≡ reply ∷ []) ⊎ (mine ≡ [])

-- A need, the replies to it, and the table before and after. A deadline is the life alone, as there is no clock
abbrev pub Steps : Listing → Table → Need → List Reply → Table → Type 0
Steps rules s (Look app) mine t = (mine ≡ found ∷ []) × (t ≡ s)
Steps rules s (Enter key) mine t =
    (e : entries.Entry) × (mine ≡ entered e ∷ []) × Acted s (calls.Enter key) (table.OfEnter e) t
Steps rules s (Begin handle request) mine t = Given mine (judged rules request) × (t ≡ s)
Steps rules s (Park ticket life half) mine t =
    (mine ≡ []) × may s (calls.Park ticket life half) × Acted s (calls.Park ticket life half) table.OfPark t
Steps rules s (Leave ticket) mine t =
    (mine ≡ []) × may s (calls.Leave ticket) × Acted s (calls.Leave ticket) table.OfLeave t
Steps rules s (Resume key) mine t =
    (c : claims.Claim HalfView) × (mine ≡ claimed c ∷ []) × Acted s (calls.Resume key) (table.OfResume c) t
Steps rules s (Finish half response) mine t = Given mine (ended half response) × (t ≡ s)
Steps rules s other mine t = (mine ≡ []) × (t ≡ s)

-- the rules stay
abbrev pub serves : Desk → Need → List Reply → Desk → Type 0
serves desk need mine next = (next.rules ≡ desk.rules) × Steps desk.rules desk.table need mine next.table

-- the row of the ticket runs
abbrev pub holds : Desk → Ticket → Type 0
holds desk ticket = may desk.table (calls.Leave ticket)
