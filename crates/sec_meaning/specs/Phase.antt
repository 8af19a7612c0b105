-- A phase, as a recursion on the items that are left.
use Rattle.std.specs.Prelude.{◌≡◌, ℕ, zero, suc, ◌+◌, nat_eq, nat_le, nat_lt, Bool, true, false, ◌&&◌, if◌then◌else◌, List, [], ◌∷◌, Option, Some, None}
use Rattle.std.specs.List.{list_any}
use Rattle.std.specs.Str.{bytes_eq}
use Rattle.sec_ast.specs.declared.listing.Item.{Item}
use Rattle.sec_ast.specs.declared.listing.Item.TheVariants as items
use Rattle.sec_ast.specs.declared.listing.Listing.{Listing}
use Rattle.sec_ast.specs.declared.rule.Rule.{Rule}
use Rattle.sec_ast.specs.declared.settings.Engine.{Engine}
use Rattle.sec_ast.specs.declared.settings.Engine.TheVariants as engines
use Rattle.sec_ast.specs.declared.verdict.Verdict.{Verdict}
use Rattle.sec_ast.specs.declared.verdict.VerdictAct.TheVariants as acts
use Rattle.sec_collect.specs.Body.{chosen_processor, is_longer}
use Rattle.sec_meaning.specs.declared.phase_number.TheConstants.{REQUEST_BODY, RESPONSE_HEADERS, LOGGING}
use Rattle.sec_meaning.specs.declared.state.After.{After}
use Rattle.sec_meaning.specs.declared.state.After.TheVariants.{GoOn, End}
use Rattle.sec_meaning.specs.declared.state.RuleFlow.{RuleFlow}
use Rattle.sec_meaning.specs.declared.state.RuleFlow.TheVariants.{Next, Skip, SkipTo, EndPhase, EndTo3, EndTo5, Interrupt}
use Rattle.sec_meaning.specs.declared.state.Passing.{Passing}
use Rattle.sec_meaning.specs.declared.state.Passing.TheVariants.{Looking, Skipping, Until}
use Rattle.sec_meaning.specs.declared.state.PlainState.{PlainState}
use Rattle.sec_meaning.specs.declared.state.Removed.{Removed}
use Rattle.sec_meaning.specs.declared.state.Removed.TheVariants as removed
use Rattle.sec_meaning.specs.declared.status.TheConstants.{CONTENT_TOO_LARGE}
use Rattle.sec_meaning.specs.State.{view_of}
use Rattle.sec_meaning.specs.Effect.{effect, is_on}

-- how a phase ends: the state, the verdict where it interrupts, and how many rules it looked at
pub record Run : Type 0 where
  pub state : PlainState
  pub verdict : Option Verdict
  pub looked : ℕ

abbrev pub ended : PlainState → Run
ended s = record { state = s; verdict = None; looked = 0 }

abbrev pub interrupted : Verdict → PlainState → Run
interrupted v s = record { state = record s { verdict = Some v }; verdict = Some v; looked = 0 }

abbrev pub one_more : Run → Run
one_more r = record r { looked = r.looked + 1 }

abbrev pub is_off : Engine → Bool
is_off engines.On = false
is_off engines.Off = true
is_off engines.DetectionOnly = false

-- whether a rule has that identifier or tag
abbrev pub is_named_by : Rule → Removed → Bool
is_named_by r (removed.Ids first last) = nat_le first r.id && nat_le r.id last
is_named_by r (removed.Tag tag) = list_any (bytes_eq tag) r.tags

abbrev pub is_removed : Rule → PlainState → Bool
is_removed r s = list_any (is_named_by r) s.removed_rules

-- after a rule that was looked at
abbrev pub follow : PlainState → RuleFlow → (Passing → PlainState → Run) → Run
follow s Next rest = rest Looking s
follow s (Skip n) rest = rest (Skipping n) s
follow s (SkipTo label) rest = rest (Until label) s
follow s EndPhase rest = ended s
follow s EndTo3 rest = ended (record s { next_phase = RESPONSE_HEADERS })
follow s EndTo5 rest = ended (record s { next_phase = LOGGING })
follow s (Interrupt v) rest = interrupted v s

-- at a rule of the phase that is not skipped
abbrev pub look : Rule → PlainState → (Passing → PlainState → Run) → Run
look r s rest =
    if is_off s.engine then ended s else
    if is_removed r s then rest Looking s else
    one_more (follow (effect r s).0 (effect r s).1 rest)

-- at a rule of the phase. A removed one counts where rules are skipped
abbrev pub at_rule : Passing → Rule → PlainState → (Passing → PlainState → Run) → Run
at_rule Looking r s rest = look r s rest
at_rule (Skipping zero) r s rest = look r s rest
at_rule (Skipping (suc n)) r s rest = rest (Skipping n) s
at_rule (Until label) r s rest = rest (Until label) s

abbrev pub at_marker : List ℕ → Passing → Passing
at_marker marker Looking = Looking
at_marker marker (Skipping n) = Skipping n
at_marker marker (Until label) = if bytes_eq marker label then Looking else Until label

-- the items that are left, for phase p
abbrev pub walk : ℕ → List Item → Passing → PlainState → Run
walk p [] passing s = ended s
walk p (items.Marker label ∷ left) passing s = walk p left (at_marker label passing) s
walk p (items.Rule r ∷ left) passing s =
    if nat_eq r.phase p then at_rule passing r s (λ passing' s'. walk p left passing' s') else walk p left passing s

-- the body is opened where it is read
abbrev pub opened : Listing → PlainState → PlainState
opened listing s =
    if s.request_body
    then record s { body = Some (record { processor = chosen_processor (view_of s); limit = listing.request_limit }) }
    else s

-- whether a body over the limit is refused
abbrev pub is_rejected : Listing → PlainState → Bool
is_rejected listing s = is_longer s.request.body s.body && (listing.limit_reject && is_on s.engine)

-- Content Too Large (RFC 9110, 15.5.14), by no rule
abbrev pub too_large : Verdict
too_large = record { rule = 0; act = acts.Deny; status = CONTENT_TOO_LARGE }

-- the phase of the request's body, once that is opened
abbrev pub with_body : Listing → PlainState → Run
with_body listing s =
    if is_rejected listing s then interrupted too_large s else walk REQUEST_BODY listing.items Looking s

-- a phase. One that was jumped over looks at nothing and changes nothing
abbrev pub phase : Listing → ℕ → PlainState → Run
phase listing p s =
    if nat_lt p s.next_phase then ended s else
    if nat_eq p REQUEST_BODY then with_body listing (opened listing s) else
    walk p listing.items Looking s

-- what a call says about the rest of a phase
abbrev pub after : After → PlainState → (Passing → PlainState → Run) → Run
after (GoOn passing) s rest = rest passing s
after (End verdict) s rest = record { state = s; verdict = verdict; looked = 0 }

-- two ends are one, but for the rules that were looked at
pub record EndsAs (a b : Run) : Type 0 where
  pub state : a.state ≡ b.state
  pub verdict : a.verdict ≡ b.verdict
