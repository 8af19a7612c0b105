-- What a request that was judged tells.
use Rattle.std.proofs.Common.{◌≡◌, inl, [], ◌∷◌, List, None, Option, sym, ◌∙◌, ap, subst}
use Rattle.web_parts.specs.declared.transaction.Request.{Request}
use Rattle.sec_ast.specs.declared.listing.Listing.{Listing}
use Rattle.sec_ast.specs.declared.verdict.LogLine.{LogLine}
use Rattle.sec_ast.specs.declared.verdict.Verdict.{Verdict}
use Rattle.sec_meaning.specs.declared.state.Judged.{Judged}
use Rattle.tx_core.specs.HalfView.{HalfView}
use Rattle.tx_core.specs.declared.half.Begun.{Begun}
use Rattle.tx_core.specs.declared.half.Begun.TheVariants as beguns
use Rattle.tx_core.specs.Halves.{BeginsAs}
use Rattle.conn_core.specs.Trace.{Interrupted, Goes}
use Rattle.agent_main.specs.Judge.{Given, begun, judged}

-- it was interrupted
pub interruption : (rules : Listing) (request : Request) (result : Begun) (verdict : Verdict) (lines : List LogLine)
    → result ≡ beguns.Interrupted verdict lines → BeginsAs rules 1 request result → Given (Interrupted verdict ∷ []) (judged rules request)
interruption rules request result verdict lines is begins =
    inl (ap (λ (j : Judged). begun rules request j.first ∷ []) (sym (subst (λ (b : Begun). BeginsAs rules 1 request b) is begins None)))

-- it goes on
pub passage : (rules : Listing) (request : Request) (result : Begun) (half : HalfView) (lines : List LogLine)
    → result ≡ beguns.Goes half lines → BeginsAs rules 1 request result → Given (Goes half ∷ []) (judged rules request)
passage rules request result half lines is begins =
    let goes = subst (λ (b : Begun). BeginsAs rules 1 request b) is begins in
    inl (ap (λ (h : HalfView). Goes h ∷ []) goes.0 ∙ ap (λ (v : Option Verdict). begun rules request v ∷ []) (sym (goes.1 None)))
