-- What a rule does, from what its links come to.
use Rattle.std.proofs.Common.{◌≡◌, Bool, List, subst}
use Rattle.std.specs.Prelude.{Result}
use Rattle.std.specs.Result.{IfOk, OnOk}
use Rattle.sec_ast.specs.declared.link.Link.{Link}
use Rattle.sec_ast.specs.declared.rule.Rule.{Rule}
use Rattle.sec_meaning.specs.declared.state.PlainState.{PlainState}
use Rattle.sec_meaning.specs.declared.state.RuleFlow.{RuleFlow}
use Rattle.sec_meaning.specs.Effect.{effect, matched_effect}
use Rattle.sec_meaning.specs.Links.{after_links}

pub flow_is : {E : Type 0} (result : Result RuleFlow E) (r : Rule) (links : List Link) (old mid : PlainState) (holds : Bool) → links ≡ r.links → holds ≡ (after_links links old).0
    → mid ≡ (after_links links old).1 → IfOk result (λ flow. flow ≡ (matched_effect r (holds, mid)).1) → IfOk result (λ flow. flow ≡ (effect r old).1)
flow_is result r links old mid holds same at_holds at_state is =
    subst (λ (ls : List Link). IfOk result (λ flow. flow ≡ (matched_effect r (after_links ls old)).1)) same
    (subst (λ (m : PlainState). IfOk result (λ flow. flow ≡ (matched_effect r ((after_links links old).0, m)).1)) at_state
    (subst (λ (h : Bool). IfOk result (λ flow. flow ≡ (matched_effect r (h, mid)).1)) at_holds is))

pub state_is : {E : Type 0} (result : Result RuleFlow E) (r : Rule) (links : List Link) (old mid new : PlainState) (holds : Bool) → links ≡ r.links → holds ≡ (after_links links old).0
    → mid ≡ (after_links links old).1 → OnOk result (new ≡ (matched_effect r (holds, mid)).0) → OnOk result (new ≡ (effect r old).0)
state_is result r links old mid new holds same at_holds at_state is =
    subst (λ (ls : List Link). OnOk result (new ≡ (matched_effect r (after_links ls old)).0)) same
    (subst (λ (m : PlainState). OnOk result (new ≡ (matched_effect r ((after_links links old).0, m)).0)) at_state
    (subst (λ (h : Bool). OnOk result (new ≡ (matched_effect r (h, mid)).0)) at_holds is))
