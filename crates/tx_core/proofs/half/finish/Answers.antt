use Rattle.std.proofs.Common.{IfOk, subst}
use Rattle.std.proofs.lemmas.Result.{IfOk-weaker}
use Rattle.std.specs.Arc.{arc_value}
use Rattle.tx_core.specs.declared.half.Ended.{Ended}
use Rattle.tx_core.specs.HalfView.{HalfView}
use Rattle.tx_core.specs.Halves.{EndsAs}
use Rattle.tx_core.proofs.Joins.{finished}
use Rattle.tx_core.proofs.half.finish.Goals as goal

pub returns-clause-ends : goal.returns-clause-ends
returns-clause-ends g c =
    let h = c.half.inside in
    subst (λ (v : HalfView). IfOk c.judge_response-ended.result (λ (ended : Ended). EndsAs v c.args.response ended)) c.half.view_is
    (IfOk-weaker _ _ _
    (λ ended f. finished (arc_value h.rules) _ h.generation h.state.request c.args.response h.state ended c.deref.ensures c.half.invariant.state c.half.invariant.goes f)
    c.judge_response-ended.ensures.follows)
