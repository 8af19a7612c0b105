-- What judging a request comes to, with the half as it is seen.
use Rattle.tx_core.specs.HalfView.{HalfView}
use Rattle.tx_core.specs.declared.half.Begun.{Begun}
use Rattle.tx_core.specs.declared.half.Begun.TheVariants as beginnings
use Rattle.world_core.specs.declared.begun.JudgeBegun.{JudgeBegun}
use Rattle.world_core.specs.declared.begun.JudgeBegun.TheVariants.{Goes, Interrupted}

-- view says how a half is seen
abbrev pub begun_by : {H : Type 0} → (H → HalfView) → JudgeBegun H → Begun
begun_by view (Interrupted verdict lines) = beginnings.Interrupted verdict lines
begun_by view (Goes half lines) = beginnings.Goes (view half) lines

abbrev pub begun_of : JudgeBegun HalfView → Begun
begun_of begun = begun_by (λ half. half) begun
