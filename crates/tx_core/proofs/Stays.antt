-- The request stays. A step keeps it where the rest keeps it from each state.
use Rattle.std.proofs.Common.{◌≡◌, ◌∙◌, ℕ, zero, suc, Bool, true, false, List, [], ◌∷◌, ◌++◌, Option, Some, None, IfSome, refl, nat_eq, nat_lt}
use Rattle.std.specs.List.{fold}
use Rattle.sec_ast.specs.declared.action.Ctl.{Ctl}
use Rattle.sec_ast.specs.declared.action.Ctl.TheVariants as ctls
use Rattle.sec_ast.specs.declared.action.SetVar.{SetVar}
use Rattle.sec_ast.specs.declared.link.Link.{Link}
use Rattle.sec_ast.specs.declared.listing.Item.{Item}
use Rattle.sec_ast.specs.declared.listing.Item.TheVariants as items
use Rattle.sec_ast.specs.declared.listing.Listing.{Listing}
use Rattle.sec_ast.specs.declared.rule.Rule.{Rule}
use Rattle.sec_ast.specs.declared.verdict.Verdict.{Verdict}
use Rattle.web_parts.specs.declared.transaction.Request.{Request}
use Rattle.sec_collect.specs.Row.{row}
use Rattle.sec_meaning.specs.declared.state.RuleFlow.{RuleFlow}
use Rattle.sec_meaning.specs.declared.state.RuleFlow.TheVariants.{Next, Skip, SkipTo, EndPhase, EndTo3, EndTo5, Interrupt}
use Rattle.sec_meaning.specs.declared.state.Matched.{Matched}
use Rattle.sec_meaning.specs.declared.state.Passing.{Passing}
use Rattle.sec_meaning.specs.declared.state.Passing.TheVariants.{Looking, Skipping, Until}
use Rattle.sec_meaning.specs.declared.state.PlainState.{PlainState}
use Rattle.sec_meaning.specs.Values.{matches}
use Rattle.sec_meaning.specs.Links.{act, act_on, act_on_each, after_link, after_links, capture, control, go_on, set_variable}
use Rattle.sec_meaning.specs.Effect.{effect, logged, matched_effect}
use Rattle.sec_meaning.specs.Phase.{Run, at_marker, at_rule, follow, is_off, is_rejected, is_removed, look, opened, phase, walk, with_body}
use Rattle.sec_meaning.specs.Judgement.{request_part, start, two_phases, unless_denied}
use Rattle.tx_core.proofs.Choices.{either}

set_stays : (vs : List SetVar) (s : PlainState) → (fold set_variable s vs).request ≡ s.request
set_stays [] s = refl
set_stays (v ∷ vs) s = set_stays vs (set_variable s v)

control_stays : (s : PlainState) (x : Ctl) → (control s x).request ≡ s.request
control_stays s (ctls.Engine engine) = refl
control_stays s (ctls.RequestBody is_read) = refl
control_stays s (ctls.ResponseBody is_read) = refl
control_stays s (ctls.Body processor) = refl
control_stays s (ctls.RemoveById first last) = refl
control_stays s (ctls.RemoveByTag tag) = refl

controls_stay : (xs : List Ctl) (s : PlainState) → (fold control s xs).request ≡ s.request
controls_stay [] s = refl
controls_stay (x ∷ xs) s = controls_stay xs (control s x) ∙ control_stays s x

act_stays : (link : Link) (s : PlainState) → (act link s).request ≡ s.request
act_stays link s = controls_stay link.ctls (fold set_variable s link.setvars) ∙ set_stays link.setvars s

capture_stays : (wanted : Bool) (groups : List (Option (List ℕ))) (s : PlainState) → (capture wanted groups s).request ≡ s.request
capture_stays false groups s = refl
capture_stays true [] s = refl
capture_stays true (group ∷ groups) s = refl

act_on_stays : (link : Link) (s : PlainState) (m : Matched) → (act_on link s m).request ≡ s.request
act_on_stays link s m =
    let noted : PlainState = record s { matched = s.matched ++ row m.name m.value ∷ [] } in
    act_stays link (capture link.capture m.groups noted) ∙ capture_stays link.capture m.groups noted

rows_stay : (link : Link) (ms : List Matched) (s : PlainState) → (fold (act_on link) s ms).request ≡ s.request
rows_stay link [] s = refl
rows_stay link (m ∷ ms) s = rows_stay link ms (act_on link s m) ∙ act_on_stays link s m

each_stays : (link : Link) (ms : List Matched) (s : PlainState) → IfSome (act_on_each link ms s) (λ t. t.request ≡ s.request)
each_stays link [] s = tt
each_stays link (m ∷ ms) s = rows_stay link (m ∷ ms) (record s { matched = [] })

link_stays : (link : Link) (s : PlainState) → IfSome (after_link link s) (λ t. t.request ≡ s.request)
link_stays link s = either (λ (o : Option PlainState). IfSome o (λ t. t.request ≡ s.request)) link.always _ _ (act_stays link s) (each_stays link (matches link s) s)

go_on_stays : (o : Option PlainState) (s : PlainState) (rest : PlainState → Bool × PlainState) → IfSome o (λ t. t.request ≡ s.request)
    → ((t : PlainState) → (rest t).1.request ≡ t.request) → (go_on o s rest).1.request ≡ s.request
go_on_stays None s rest k h = refl
go_on_stays (Some t) s rest k h = h t ∙ k

links_stay : (ls : List Link) (s : PlainState) → (after_links ls s).1.request ≡ s.request
links_stay [] s = refl
links_stay (l ∷ ls) s = go_on_stays (after_link l s) s (λ t. after_links ls t) (link_stays l s) (λ t. links_stay ls t)

logged_stays : (r : Rule) (s : PlainState) → (logged r s).request ≡ s.request
logged_stays r s = either (λ (t : PlainState). t.request ≡ s.request) r.log _ _ refl refl

matched_stays : (r : Rule) (x : Bool × PlainState) → (matched_effect r x).0.request ≡ x.1.request
matched_stays r (true, s) = logged_stays r s
matched_stays r (false, s) = refl

effect_stays : (r : Rule) (s : PlainState) → (effect r s).0.request ≡ s.request
effect_stays r s = matched_stays r (after_links r.links s) ∙ links_stay r.links s

follow_stays : (f : RuleFlow) (s : PlainState) (rest : Passing → PlainState → Run) → ((w : Passing) (t : PlainState) → (rest w t).state.request ≡ t.request) → (follow s f rest).state.request ≡ s.request
follow_stays Next s rest h = h Looking s
follow_stays (Skip n) s rest h = h (Skipping n) s
follow_stays (SkipTo l) s rest h = h (Until l) s
follow_stays EndPhase s rest h = refl
follow_stays EndTo3 s rest h = refl
follow_stays EndTo5 s rest h = refl
follow_stays (Interrupt v) s rest h = refl

look_stays : (r : Rule) (s : PlainState) (rest : Passing → PlainState → Run) → ((w : Passing) (t : PlainState) → (rest w t).state.request ≡ t.request) → (look r s rest).state.request ≡ s.request
look_stays r s rest h =
    either (λ (k : Run). k.state.request ≡ s.request) (is_off s.engine) _ _ refl (either (λ (k : Run). k.state.request ≡ s.request) (is_removed r s) _ _ (h Looking s)
    (follow_stays (effect r s).1 (effect r s).0 rest h ∙ effect_stays r s))

rule_stays : (w : Passing) (r : Rule) (s : PlainState) (rest : Passing → PlainState → Run) → ((w : Passing) (t : PlainState) → (rest w t).state.request ≡ t.request) → (at_rule w r s rest).state.request ≡ s.request
rule_stays Looking r s rest h = look_stays r s rest h
rule_stays (Skipping zero) r s rest h = look_stays r s rest h
rule_stays (Skipping (suc n)) r s rest h = h (Skipping n) s
rule_stays (Until l) r s rest h = h (Until l) s

walk_stays : (p : ℕ) (items : List Item) (w : Passing) (s : PlainState) → (walk p items w s).state.request ≡ s.request
walk_stays p [] w s = refl
walk_stays p (items.Marker label ∷ left) w s = walk_stays p left (at_marker label w) s
walk_stays p (items.Rule r ∷ left) w s =
    either (λ (k : Run). k.state.request ≡ s.request) (nat_eq r.phase p) _ _ (rule_stays w r s (λ v t. walk p left v t) (λ v t. walk_stays p left v t)) (walk_stays p left w s)

opened_stays : (l : Listing) (s : PlainState) → (opened l s).request ≡ s.request
opened_stays l s = either (λ (t : PlainState). t.request ≡ s.request) s.request_body _ _ refl refl

body_stays : (l : Listing) (s : PlainState) → (with_body l s).state.request ≡ s.request
body_stays l s = either (λ (k : Run). k.state.request ≡ s.request) (is_rejected l s) _ _ refl (walk_stays 2 l.items Looking s)

pub phase_stays : (l : Listing) (p : ℕ) (s : PlainState) → (phase l p s).state.request ≡ s.request
phase_stays l p s =
    either (λ (k : Run). k.state.request ≡ s.request) (nat_lt p s.next_phase) _ _ refl
    (either (λ (k : Run). k.state.request ≡ s.request) (nat_eq p 2) _ _ (body_stays l (opened l s) ∙ opened_stays l s) (walk_stays p l.items Looking s))

unless_stays : (v : Option Verdict) (a b : Run) (r : Request) → a.state.request ≡ r → b.state.request ≡ r → (unless_denied v a b).state.request ≡ r
unless_stays None a b r p q = q
unless_stays (Some v) a b r p q = p

pub two_stays : (l : Listing) (p q : ℕ) (s : PlainState) → (two_phases l p q s).state.request ≡ s.request
two_stays l p q s = unless_stays (phase l p s).verdict _ _ s.request (phase_stays l p s) (phase_stays l q (phase l p s).state ∙ phase_stays l p s)

-- it is still there after phases 1 and 2
pub part_stays : (l : Listing) (r : Request) → (request_part l r).state.request ≡ r
part_stays l r = two_stays l 1 2 (start l r)
