use Rattle.std.proofs.Common.{◌∙◌, Some, ap, subst}
use Rattle.std.specs.Arc.{arc_value}
use Rattle.sec_ast.specs.declared.listing.Listing.{Listing}
use Rattle.sec_meaning.specs.Judgement.{judge}
use Rattle.tx_core.specs.HalfView.{HalfView}
use Rattle.tx_core.specs.Halves.{EndsAs}
use Rattle.world_core.proofs.Rejudging.{ended_anew, further_lines}
use Rattle.world_core.proofs.slowly.SlowlyJudge.finish.Goals as goal

pub after_first-requires : goal.after_first-requires
after_first-requires c =
    let h = c.half.inside in
    let listed = c.listing.ensures ∙ c.deref.ensures in
    let anew = c.in_ok-judged.ensures ∙ ap (λ (l : Listing). judge l h.request (Some c.args.response)) listed in
    (further_lines (arc_value h.rules) h.request (Some c.args.response) h.logged c.in_ok-judged.judged c.half.invariant.goes c.half.invariant.logged anew).0

pub returns : goal.returns
returns c =
    let h = c.half.inside in
    let judged = c.in_ok-judged.judged in
    let listed = c.listing.ensures ∙ c.deref.ensures in
    let anew = c.in_ok-judged.ensures ∙ ap (λ (l : Listing). judge l h.request (Some c.args.response)) listed in
    subst (λ (v : HalfView). EndsAs v c.args.response (record { verdict = judged.second; lines = c.after_first.result })) c.half.view_is
    (ended_anew (arc_value h.rules) h.generation h.request c.args.response h.logged judged c.after_first.result c.half.invariant.goes c.half.invariant.logged anew c.after_first.ensures)
