-- How the halves of a transaction come to the judgement of the whole.
use Rattle.std.specs.Prelude.{◌≡◌, ℕ, List, ◌++◌, Option, Some, None}
use Rattle.sec_ast.specs.declared.listing.Listing.{Listing}
use Rattle.sec_ast.specs.declared.verdict.LogLine.{LogLine}
use Rattle.web_parts.specs.declared.transaction.Request.{Request}
use Rattle.web_parts.specs.declared.transaction.Response.{Response}
use Rattle.sec_meaning.specs.Judgement.{judge, request_part}
use Rattle.tx_core.specs.declared.half.Begun.{Begun}
use Rattle.tx_core.specs.declared.half.Begun.TheVariants.{Goes, Interrupted}
use Rattle.tx_core.specs.declared.half.Ended.{Ended}
use Rattle.tx_core.specs.HalfView.{HalfView}

-- the lines of the phases of the request
abbrev pub first_lines : Listing → Request → List LogLine
first_lines listing request = (request_part listing request).state.lines

-- an interruption is the first verdict, and its lines are all that the judgement has, whichever response would
-- come; else there is no first verdict, and the half is seen as what was handed in
abbrev pub BeginsAs : Listing → ℕ → Request → Begun → Type 0
BeginsAs listing generation request (Interrupted verdict lines) =
    (response : Option Response) → judge listing request response
    ≡ record { first = Some verdict; second = None; lines = lines }
BeginsAs listing generation request (Goes half lines) =
    (half ≡ record { generation = generation; listing = listing; request = request })
    × ((response : Option Response) → (judge listing request response).first ≡ None)
    × (lines ≡ first_lines listing request)

-- the verdict is the second one of the judgement, and the lines are its further ones
pub record EndsAs (half : HalfView) (response : Response) (e : Ended) : Type 0 where
  pub verdict : e.verdict ≡ (judge half.listing half.request (Some response)).second
  pub lines : first_lines half.listing half.request ++ e.lines ≡ (judge half.listing half.request (Some response)).lines

-- the lines are the further ones of a judgement without a response
abbrev pub RetiresAs : HalfView → List LogLine → Type 0
RetiresAs half lines = first_lines half.listing half.request ++ lines ≡ (judge half.listing half.request None).lines
