-- A judgement from its parts.
use Rattle.std.proofs.Common.{◌≡◌, Option, Some, None, refl}
use Rattle.sec_ast.specs.declared.listing.Listing.{Listing}
use Rattle.sec_ast.specs.declared.verdict.Verdict.{Verdict}
use Rattle.web_parts.specs.declared.transaction.Request.{Request}
use Rattle.web_parts.specs.declared.transaction.Response.{Response}
use Rattle.sec_meaning.specs.declared.state.Judged.{Judged}
use Rattle.sec_meaning.specs.declared.state.PlainState.{PlainState}
use Rattle.sec_meaning.specs.Judgement.{judge, request_part, response_part, start, two_phases}
use Rattle.sec_meaning.specs.Phase.{Run, phase}

-- a run that counted nothing
abbrev pub run_of : PlainState → Option Verdict → Run
run_of s verdict = record { state = s; verdict = verdict; looked = 0 }

-- how many rules were looked at plays no part after the request
pub uncounted : (listing : Listing) (response : Option Response) (one : Run) → response_part listing response (run_of one.state one.verdict) ≡ response_part listing response one
uncounted listing None one = refl
uncounted listing (Some response) one = refl

pub judged : (listing : Listing) (request : Request) (response : Option Response) (before requested responded last : PlainState) (first second : Option Verdict)
    → before ≡ start listing request
    → first ≡ (two_phases listing 1 2 before).verdict
    → requested ≡ (two_phases listing 1 2 before).state
    → second ≡ (response_part listing response (run_of requested first)).verdict
    → responded ≡ (response_part listing response (run_of requested first)).state
    → last ≡ (phase listing 5 responded).state
    → ◌≡◌ {A = Judged} (record { first = first; second = second; lines = last.lines }) (judge listing request response)
judged listing request response before requested responded last first second starts at_first at_requested at_second at_responded at_last =
    rw (at_last, at_responded, at_second, at_requested, at_first, starts, uncounted listing response (request_part listing request)) refl
