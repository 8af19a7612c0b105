use Rattle.std.proofs.Common.{List, ℕ, ◌∙◌, subst}
use Rattle.sec_ops.specs.Gates.{HasNone}
use Rattle.sec_ops.proofs.gates.is_open.Goals as goal

pub returns-in-Exact : goal.returns-in-Exact
returns-in-Exact c = λ shut. rw c.in-Exact.is (c.may_hold.ensures shut)

pub returns-in_ok-lower-in-Lower : goal.returns-in_ok-lower-in-Lower
returns-in_ok-lower-in-Lower c = λ shut.
    let needles = c.in-Lower.needles in
    rw c.in-Lower.is (subst (λ (text : List ℕ). HasNone needles text) (c.as_slice.ensures ∙ c.in_ok-lower-in-Lower.ensures) (c.may_hold-in-Lower.ensures shut))
