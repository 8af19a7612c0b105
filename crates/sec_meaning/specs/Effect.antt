-- What a rule does to the state, and where it says to go on.
use Rattle.std.specs.Prelude.{ℕ, nat_eq, nat_le, Bool, true, false, ◌&&◌, ◌||◌, if◌then◌else◌, List, [], ◌∷◌, ◌++◌, Option, Some, None}
use Rattle.sec_ast.specs.declared.action.Disrupt.{Disrupt}
use Rattle.sec_ast.specs.declared.action.Disrupt.TheVariants as disrupts
use Rattle.sec_ast.specs.declared.rule.Rule.{Rule}
use Rattle.sec_ast.specs.declared.settings.Engine.{Engine}
use Rattle.sec_ast.specs.declared.settings.Engine.TheVariants as engines
use Rattle.sec_ast.specs.declared.verdict.VerdictAct.{VerdictAct}
use Rattle.sec_ast.specs.declared.verdict.VerdictAct.TheVariants as acts
use Rattle.sec_ast.specs.declared.verdict.LogLine.{LogLine}
use Rattle.sec_collect.specs.Expansion.{expansion}
use Rattle.sec_collect.specs.TransactionView.{TransactionView}
use Rattle.sec_meaning.specs.declared.state.RuleFlow.{RuleFlow}
use Rattle.sec_meaning.specs.declared.state.RuleFlow.TheVariants.{Next, Skip, SkipTo, EndPhase, EndTo3, EndTo5, Interrupt}
use Rattle.sec_meaning.specs.declared.state.PlainState.{PlainState}
use Rattle.sec_meaning.specs.declared.phase_number.TheConstants.{REQUEST_BODY, RESPONSE_BODY}
use Rattle.sec_meaning.specs.declared.status.TheConstants.{MOVED_PERMANENTLY, FOUND, SEE_OTHER, TEMPORARY_REDIRECT, PERMANENT_REDIRECT, FORBIDDEN}
use Rattle.sec_meaning.specs.State.{view_of}
use Rattle.sec_meaning.specs.Links.{after_links}

abbrev pub line_of : Rule → TransactionView → LogLine
line_of r s = record { rule = r.id; msg = expansion s r.msg; detail = expansion s r.logdata }

abbrev pub logged : Rule → PlainState → PlainState
logged r s = if r.log then record s { lines = s.lines ++ line_of r (view_of s) ∷ [] } else s

-- where a rule goes on that does not disrupt
abbrev pub skip_of : Option (List ℕ) → ℕ → RuleFlow
skip_of (Some label) n = SkipTo label
skip_of None n = if nat_eq n 0 then Next else Skip n

-- Forbidden where a rule that denies has no status (RFC 9110, 15.5.4)
abbrev pub denial_status : ℕ → ℕ
denial_status status = if nat_eq status 0 then FORBIDDEN else status

-- Found where its status is none of a redirection (RFC 9110, 15.4)
abbrev pub redirect_status : ℕ → ℕ
redirect_status status =
    if nat_eq status MOVED_PERMANENTLY || nat_eq status FOUND || nat_eq status SEE_OTHER
    || nat_eq status TEMPORARY_REDIRECT || nat_eq status PERMANENT_REDIRECT
    then status
    else FOUND

abbrev pub interruption : Rule → VerdictAct → ℕ → RuleFlow
interruption r act status = Interrupt (record { rule = r.id; act = act; status = status })

-- `allow:request` ends the phases of the request, or the phase of a response
abbrev pub disruption : Disrupt → Rule → PlainState → RuleFlow
disruption disrupts.Pass r s = skip_of r.skip_after r.skip
disruption disrupts.Deny r s = interruption r acts.Deny (denial_status r.status)
disruption disrupts.Drop r s = interruption r acts.Drop (denial_status r.status)
disruption (disrupts.Redirect location) r s =
    interruption r (acts.Redirect (expansion (view_of s) location)) (redirect_status r.status)
disruption disrupts.Allow r s = EndTo5
disruption disrupts.AllowPhase r s = EndPhase
disruption disrupts.AllowRequest r s = if nat_le r.phase REQUEST_BODY then EndTo3 else EndPhase

abbrev pub is_on : Engine → Bool
is_on engines.On = true
is_on engines.Off = false
is_on engines.DetectionOnly = false

-- a disruptive action acts where the engine is on, and not in the logging phase
abbrev pub flow_of : Rule → PlainState → RuleFlow
flow_of r s =
    if is_on s.engine && nat_le r.phase RESPONSE_BODY then disruption r.disrupt r s
    else skip_of r.skip_after r.skip

abbrev pub matched_effect : Rule → Bool × PlainState → PlainState × RuleFlow
matched_effect r x = if x.0 then (logged r x.1, flow_of r (logged r x.1)) else (x.1, Next)

-- the state after a rule, and where to go on. It logs and acts where each of its links holds
abbrev pub effect : Rule → PlainState → PlainState × RuleFlow
effect r s = matched_effect r (after_links r.links s)
