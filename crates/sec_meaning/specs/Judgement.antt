-- A whole transaction, judged at once.
use Rattle.std.specs.Prelude.{ℕ, [], Option, Some, None}
use Rattle.sec_ast.specs.declared.listing.Listing.{Listing}
use Rattle.sec_ast.specs.declared.settings.Processor.TheVariants as processors
use Rattle.sec_ast.specs.declared.verdict.Verdict.{Verdict}
use Rattle.web_parts.specs.declared.transaction.Request.{Request}
use Rattle.web_parts.specs.declared.transaction.Response.{Response}
use Rattle.sec_meaning.specs.declared.phase_number.TheConstants.{REQUEST_HEADERS, REQUEST_BODY, RESPONSE_HEADERS, RESPONSE_BODY, LOGGING}
use Rattle.sec_meaning.specs.declared.state.Judged.{Judged}
use Rattle.sec_meaning.specs.declared.state.PlainState.{PlainState}
use Rattle.sec_meaning.specs.Phase.{Run, ended, phase}

-- the state before the first phase
abbrev pub start : Listing → Request → PlainState
start listing request = record {
  engine = listing.engine;
  request_body = listing.request_body;
  response_body = listing.response_body;
  processor = processors.Plain;
  request = request;
  body = None;
  response = None;
  tx = [];
  captured = [];
  matched = [];
  removed_rules = [];
  next_phase = REQUEST_HEADERS;
  verdict = None;
  lines = [];
}

-- the state with a response. The response's body is read where that is on by now
abbrev pub answered : Response → PlainState → PlainState
answered response s = record s { response = Some (record { response = response; with_body = s.response_body }) }

abbrev pub unless_denied : Option Verdict → Run → Run → Run
unless_denied (Some v) denied next = denied
unless_denied None denied next = next

-- two phases, where the first of them does not interrupt
abbrev pub two_phases : Listing → ℕ → ℕ → PlainState → Run
two_phases listing p q s =
    unless_denied (phase listing p s).verdict (phase listing p s) (phase listing q (phase listing p s).state)

-- the phases of the request
abbrev pub request_part : Listing → Request → Run
request_part listing request = two_phases listing REQUEST_HEADERS REQUEST_BODY (start listing request)

-- the phases of the response, where there is one and the request was not interrupted
abbrev pub response_part : Listing → Option Response → Run → Run
response_part listing None one = ended one.state
response_part listing (Some response) one =
    unless_denied one.verdict (ended one.state)
    (two_phases listing RESPONSE_HEADERS RESPONSE_BODY (answered response one.state))

-- the state after the logging phase, which runs last in every case
abbrev pub last_part : Listing → Run → PlainState
last_part listing r = (phase listing LOGGING r.state).state

abbrev pub judge : Listing → Request → Option Response → Judged
judge listing request response =
    let one = request_part listing request in
    let other = response_part listing response one in
    record { first = one.verdict; second = other.verdict; lines = (last_part listing other).lines }
