use Rattle.std.proofs.lemmas.Result.{IfOk-weaker}
use Rattle.sec_eval.proofs.Steps.{one_step}
use Rattle.sec_eval.proofs.phase.look_at.Goals as goal

pub returns-clause-ok : goal.returns-clause-ok
returns-clause-ok g c =
    IfOk-weaker c.follow.result _ _
    (λ then_after is. λ rest. rw (← c.in_ok-flow.ensures.flow, ← c.in_ok-flow.ensures.state) (one_step _ _ _ _ c.tick.ensures (is c.args.steps.now rest)))
    c.follow.ensures
