use Rattle.std.proofs.Common.{◌∙◌, sym, ap}
use Rattle.std.specs.Arc.{arc_value}
use Rattle.web_parts.specs.declared.transaction.Request.{Request}
use Rattle.tx_core.specs.HalfView.{HalfView}
use Rattle.tx_core.proofs.Joins.{lines_of_begin, started}
use Rattle.tx_core.proofs.half.begin_by.Goals as goal

pub invariant_of-half : goal.invariant_of-half
invariant_of-half g c =
    let s =
    started (arc_value c.args.rules) _ _ c.args.request _ _ _ c.deref.ensures c.requires c.in_ok-state.ensures (sym c.in-Ok-None.field-0-is ∙ c.in-Ok-None.ensures.verdict)
    c.in-Ok-None.ensures.state c.take_lines-lines.ensures.left
    in
    record { state = s.state; goes = s.goes }

pub returns-in-Ok-None-clause-begins : goal.returns-in-Ok-None-clause-begins
returns-in-Ok-None-clause-begins g c =
    let s =
    started (arc_value c.args.rules) _ _ c.args.request _ _ _ c.deref.ensures c.requires c.in_ok-state.ensures (sym c.in-Ok-None.field-0-is ∙ c.in-Ok-None.ensures.verdict)
    c.in-Ok-None.ensures.state c.take_lines-lines.ensures.left
    in (
      ap (λ (q : Request). let v : HalfView = record { generation = c.args.generation; listing = arc_value c.args.rules; request = q } in v) s.request,
      λ _. s.none,
      c.take_lines-lines.ensures.taken ∙ lines_of_begin (arc_value c.args.rules) _ _ c.args.request _ _ c.deref.ensures c.requires c.in_ok-state.ensures c.in-Ok-None.ensures.state,
    )
