use Rattle.std.proofs.Common.{◌≡◌, ◌∙◌, subst}
use Rattle.sec_collect.specs.TransactionView.{TransactionView}
use Rattle.sec_eval.specs.Matching.{matches_in}
use Rattle.sec_eval.proofs.Effects.{matched}
use Rattle.sec_eval.proofs.links.after_link.Goals as goal

pub returns-clause-after : goal.returns-clause-after
returns-clause-after c =
    let rows = subst (λ (v : TransactionView). c.in_ok-rows.rows ≡ matches_in v c.args.link.now) c.vars.ensures c.in_ok-rows.ensures.rows in
    matched c.act_on_each.result c.args.link.now c.args.state.now c.act_on_each.new.state c.into_vec.result.items c.if-link.false
    (c.into_vec.ensures ∙ rows) c.act_on_each.ensures.after
