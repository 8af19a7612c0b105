use Rattle.std.proofs.Common.{IfOk, List, subst}
use Rattle.std.proofs.lemmas.Result.{IfOk-weaker}
use Rattle.std.specs.Arc.{arc_value}
use Rattle.sec_ast.specs.declared.verdict.LogLine.{LogLine}
use Rattle.tx_core.specs.HalfView.{HalfView}
use Rattle.tx_core.specs.Halves.{RetiresAs}
use Rattle.tx_core.proofs.Joins.{retired}
use Rattle.tx_core.proofs.half.retire.Goals as goal

pub returns-clause-retires : goal.returns-clause-retires
returns-clause-retires g c =
    let h = c.half.inside.state in
    subst (λ (v : HalfView). IfOk c.retired_lines-lines.result (λ (lines : List LogLine). RetiresAs v lines)) c.half.view_is
    (IfOk-weaker _ _ _ (λ lines e. retired (arc_value c.half.inside.rules) _ h.request h lines c.deref.ensures c.half.invariant.state c.half.invariant.goes e) c.retired_lines-lines.ensures.lines)
