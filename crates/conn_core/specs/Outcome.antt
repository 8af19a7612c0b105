-- The actions of an ACK that answer a message, in their order.
use Rattle.std.specs.Prelude.{ℕ, List, [], ◌∷◌, ◌++◌, Option, Some, None, codes}
use Rattle.spop_data.specs.declared.value.Data.TheVariants as types
use Rattle.spop_talk.specs.declared.ack.Action.{Action}
use Rattle.spop_web.specs.Answer.{error_number, variable_name}
use Rattle.spop_web.specs.Names.{name_of}
use Rattle.spop_web.specs.declared.answer.AckError.TheVariants as errors
use Rattle.spop_web.specs.declared.answer.AckVariable.{AckVariable}
use Rattle.spop_web.specs.declared.answer.AckVariable.TheVariants as variables
use Rattle.sec_ast.specs.declared.verdict.Verdict.{Verdict}
use Rattle.sec_ast.specs.declared.verdict.VerdictAct as act
use Rattle.sec_ast.specs.declared.verdict.VerdictAct.TheVariants as acts
use Rattle.conn_core.specs.declared.outcome.Outcome as outcome
use Rattle.conn_core.specs.declared.outcome.Outcome.TheVariants as outcomes

-- one action: a STRING, or a UINT32
abbrev pub text_action : AckVariable → List ℕ → List Action
text_action variable text = record { name = variable_name variable; value = types.Text text } ∷ []

abbrev pub number_action : AckVariable → ℕ → List Action
number_action variable n = record { name = variable_name variable; value = types.Uint32 n } ∷ []

abbrev pub id_actions : Option (List ℕ) → List Action
id_actions None = []
id_actions (Some id) = text_action variables.Id id

-- what is done, and with which status; a redirection has its location
abbrev pub done_actions : List ℕ → ℕ → List Action
done_actions word status = text_action variables.Action word ++ number_action variables.Status status

abbrev pub act_actions : act.VerdictAct → ℕ → List Action
act_actions acts.Deny status = done_actions (codes "deny") status
act_actions acts.Drop status = done_actions (codes "drop") status
act_actions (acts.Redirect location) status =
    done_actions (codes "redirect") status ++ text_action variables.Data location

abbrev pub verdict_actions : Verdict → List Action
verdict_actions v = act_actions v.act v.status ++ number_action variables.RuleId v.rule

abbrev pub outcome_actions : outcome.Outcome → List Action
outcome_actions outcomes.Passed = []
outcome_actions (outcomes.Stopped verdict) = verdict_actions verdict
outcome_actions (outcomes.Failed error) = number_action variables.Error (error_number error)
outcome_actions (outcomes.Bad arg) =
    text_action variables.Data (name_of arg) ++ number_action variables.Error (error_number errors.BadArgument)

-- the identifier first, where it is good
abbrev pub actions_of : Option (List ℕ) → outcome.Outcome → List Action
actions_of id outcome = id_actions id ++ outcome_actions outcome
