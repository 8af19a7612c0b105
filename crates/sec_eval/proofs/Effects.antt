-- A link that tests values.
use Rattle.std.proofs.Common.{◌≡◌, ◌∙◌, Bool, false, List, ap}
use Rattle.std.specs.Prelude.{Result, Ok, Err}
use Rattle.std.specs.Result.{IfOk}
use Rattle.sec_ast.specs.declared.link.Link.{Link}
use Rattle.sec_eval.specs.Matching.{matches_in}
use Rattle.sec_meaning.specs.Links.{act_on_each, after_link, reached}
use Rattle.sec_meaning.specs.State.{view_of}
use Rattle.sec_meaning.specs.declared.state.Matched.{Matched}
use Rattle.sec_meaning.specs.declared.state.PlainState.{PlainState}

pub matched : {E : Type 0} (result : Result Bool E) (link : Link) (s t : PlainState) (rows : List Matched) → link.always ≡ false → rows ≡ matches_in (view_of s) link
    → IfOk result (λ holds. reached holds t ≡ act_on_each link rows s) → IfOk result (λ holds. reached holds t ≡ after_link link s)
matched (Ok holds) link s t rows sometimes are is = is ∙ rw sometimes (ap (λ (ms : List Matched). act_on_each link ms s) are)
matched (Err e) link s t rows sometimes are is = tt
