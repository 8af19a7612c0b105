use Rattle.std.proofs.Common.{◌∙◌, List, ◌++◌, None, ap, subst}
use Rattle.std.specs.Arc.{arc_value}
use Rattle.sec_ast.specs.declared.listing.Listing.{Listing}
use Rattle.sec_ast.specs.declared.verdict.LogLine.{LogLine}
use Rattle.sec_meaning.specs.Judgement.{judge}
use Rattle.tx_core.specs.HalfView.{HalfView}
use Rattle.tx_core.specs.Halves.{RetiresAs, first_lines}
use Rattle.world_core.proofs.Rejudging.{further_lines}
use Rattle.world_core.proofs.slowly.SlowlyJudge.retire.Goals as goal

pub after_first-requires : goal.after_first-requires
after_first-requires c =
    let h = c.half.inside in
    let listed = c.listing.ensures ∙ c.deref.ensures in
    let anew = c.in_ok-judged.ensures ∙ ap (λ (l : Listing). judge l h.request None) listed in
    (further_lines (arc_value h.rules) h.request None h.logged c.in_ok-judged.judged c.half.invariant.goes c.half.invariant.logged anew).0

pub returns : goal.returns
returns c =
    let h = c.half.inside in
    let listed = c.listing.ensures ∙ c.deref.ensures in
    let anew = c.in_ok-judged.ensures ∙ ap (λ (l : Listing). judge l h.request None) listed in
    let further = (further_lines (arc_value h.rules) h.request None h.logged c.in_ok-judged.judged c.half.invariant.goes c.half.invariant.logged anew).1 in
    subst (λ (v : HalfView). RetiresAs v c.after_first.result) c.half.view_is
    (ap (λ (lines : List LogLine). first_lines (arc_value h.rules) h.request ++ lines) c.after_first.ensures ∙ further)
