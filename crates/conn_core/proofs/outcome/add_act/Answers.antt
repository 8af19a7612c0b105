use Rattle.std.proofs.Common.{◌++◌, List, append_assoc, ap, codes, ◌∙◌}
use Rattle.spop_data.proofs.Steps.{on_ok}
use Rattle.spop_talk.specs.declared.ack.Action.{Action}
use Rattle.spop_web.specs.declared.answer.AckVariable.TheVariants as variables
use Rattle.conn_core.specs.Outcome.{done_actions, text_action}
use Rattle.conn_core.proofs.outcome.add_act.Goals as goal

pub returns-in_ok-add_done-in-Redirect : goal.returns-in_ok-add_done-in-Redirect
returns-in_ok-add_done-in-Redirect c =
    let last = text_action variables.Data c.in-Redirect.location in
    rw c.in-Redirect.is (on_ok c.add_text.result
    (λ e. e ∙ ap (λ (l : List Action). l ++ last) c.in_ok-add_done-in-Redirect.ensures ∙ append_assoc c.args.actions.now (done_actions (codes "redirect") c.args.status) last)
    c.add_text.ensures)
