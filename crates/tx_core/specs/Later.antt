-- What comes of a transaction after the phases of the request.
use Rattle.std.specs.Prelude.{◌≡◌, ◌++◌, Option, Some, None}
use Rattle.sec_ast.specs.declared.listing.Listing.{Listing}
use Rattle.web_parts.specs.declared.transaction.Response.{Response}
use Rattle.sec_meaning.specs.declared.phase_number.TheConstants.{RESPONSE_HEADERS, RESPONSE_BODY}
use Rattle.sec_meaning.specs.declared.state.Judged.{Judged}
use Rattle.sec_meaning.specs.declared.state.PlainState.{PlainState}
use Rattle.sec_meaning.specs.Judgement.{answered, last_part, two_phases}
use Rattle.sec_meaning.specs.Phase.{Run, ended}
use Rattle.tx_core.specs.declared.half.Ended.{Ended}
use Rattle.tx_core.specs.Lines.{without_lines}

-- the phases of the response, where there is one
abbrev pub later_part : Listing → Option Response → PlainState → Run
later_part listing None s = ended s
later_part listing (Some response) s = two_phases listing RESPONSE_HEADERS RESPONSE_BODY (answered response s)

-- what comes of these and the logging phase
pub record FollowsAs (listing : Listing) (response : Response) (s : PlainState) (e : Ended) : Type 0 where
  pub verdict : e.verdict ≡ (later_part listing (Some response) s).verdict
  pub lines : e.lines ≡ (last_part listing (later_part listing (Some response) s)).lines

-- the judgement of a request that was not interrupted, from the state after its phases. Its lines are those that stood
-- there, and those that come of the state without them
abbrev pub judged_later : Listing → Option Response → PlainState → Judged
judged_later listing response s =
    let later = later_part listing response (without_lines s) in
    record { first = None; second = later.verdict; lines = s.lines ++ (last_part listing later).lines }
