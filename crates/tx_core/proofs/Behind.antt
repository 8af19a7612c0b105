-- A phase adds its lines behind those that were there, and does the same else.
use Rattle.std.proofs.Common.{◌≡◌, ◌∙◌, ℕ, zero, suc, Bool, true, false, List, [], ◌∷◌, ◌++◌, Option, Some, None, refl, ap, nat_eq, nat_le, nat_lt, ◌&&◌, append_assoc}
use Rattle.std.specs.List.{fold}
use Rattle.std.specs.Option.{option_map}
use Rattle.sec_ast.specs.declared.action.Ctl.{Ctl}
use Rattle.sec_ast.specs.declared.action.Ctl.TheVariants as ctls
use Rattle.sec_ast.specs.declared.action.Disrupt.{Disrupt}
use Rattle.sec_ast.specs.declared.action.Disrupt.TheVariants as disrupts
use Rattle.sec_ast.specs.declared.action.SetVar.{SetVar}
use Rattle.sec_ast.specs.declared.link.Link.{Link}
use Rattle.sec_ast.specs.declared.listing.Item.{Item}
use Rattle.sec_ast.specs.declared.listing.Item.TheVariants as items
use Rattle.sec_ast.specs.declared.listing.Listing.{Listing}
use Rattle.sec_ast.specs.declared.rule.Rule.{Rule}
use Rattle.sec_ast.specs.declared.verdict.LogLine.{LogLine}
use Rattle.sec_ast.specs.declared.verdict.Verdict.{Verdict}
use Rattle.sec_collect.specs.Expansion.{expansion}
use Rattle.sec_collect.specs.Row.{row}
use Rattle.sec_meaning.specs.declared.state.RuleFlow.{RuleFlow}
use Rattle.sec_meaning.specs.declared.state.RuleFlow.TheVariants.{Next, Skip, SkipTo, EndPhase, EndTo3, EndTo5, Interrupt}
use Rattle.sec_meaning.specs.declared.state.Matched.{Matched}
use Rattle.sec_meaning.specs.declared.state.Passing.{Passing}
use Rattle.sec_meaning.specs.declared.state.Passing.TheVariants.{Looking, Skipping, Until}
use Rattle.sec_meaning.specs.declared.state.PlainState.{PlainState}
use Rattle.sec_meaning.specs.State.{view_of}
use Rattle.sec_meaning.specs.Values.{matches}
use Rattle.sec_meaning.specs.Links.{act, act_on, act_on_each, after_link, after_links, capture, control, go_on, set_variable}
use Rattle.sec_meaning.specs.Effect.{disruption, effect, flow_of, is_on, logged, matched_effect}
use Rattle.sec_meaning.specs.Phase.{Run, at_marker, at_rule, ended, follow, interrupted, is_off, is_rejected, is_removed, look, one_more, opened, phase, too_large, walk, with_body}
use Rattle.sec_meaning.specs.Judgement.{two_phases, unless_denied}
use Rattle.tx_core.specs.Lines.{behind_lines, run_behind}
use Rattle.tx_core.proofs.Choices.{both_sides, over_choice}

module _ (front : List LogLine) where
  set_behind : (vs : List SetVar) (s : PlainState) → fold set_variable (behind_lines front s) vs ≡ behind_lines front (fold set_variable s vs)
  set_behind [] s = refl
  set_behind (v ∷ vs) s = set_behind vs (set_variable s v)

  control_behind : (s : PlainState) (x : Ctl) → control (behind_lines front s) x ≡ behind_lines front (control s x)
  control_behind s (ctls.Engine engine) = refl
  control_behind s (ctls.RequestBody is_read) = refl
  control_behind s (ctls.ResponseBody is_read) = refl
  control_behind s (ctls.Body processor) = refl
  control_behind s (ctls.RemoveById first last) = refl
  control_behind s (ctls.RemoveByTag tag) = refl

  controls_behind : (xs : List Ctl) (s : PlainState) → fold control (behind_lines front s) xs ≡ behind_lines front (fold control s xs)
  controls_behind [] s = refl
  controls_behind (x ∷ xs) s = ap (λ (t : PlainState). fold control t xs) (control_behind s x) ∙ controls_behind xs (control s x)

  act_behind : (link : Link) (s : PlainState) → act link (behind_lines front s) ≡ behind_lines front (act link s)
  act_behind link s = ap (λ (t : PlainState). fold control t link.ctls) (set_behind link.setvars s) ∙ controls_behind link.ctls (fold set_variable s link.setvars)

  capture_behind : (wanted : Bool) (groups : List (Option (List ℕ))) (s : PlainState) → capture wanted groups (behind_lines front s) ≡ behind_lines front (capture wanted groups s)
  capture_behind false groups s = refl
  capture_behind true [] s = refl
  capture_behind true (group ∷ groups) s = refl

  act_on_behind : (link : Link) (s : PlainState) (m : Matched) → act_on link (behind_lines front s) m ≡ behind_lines front (act_on link s m)
  act_on_behind link s m =
      let noted : PlainState = record s { matched = s.matched ++ row m.name m.value ∷ [] } in
      ap (λ (t : PlainState). act link t) (capture_behind link.capture m.groups noted) ∙ act_behind link (capture link.capture m.groups noted)

  rows_behind : (link : Link) (ms : List Matched) (s : PlainState) → fold (act_on link) (behind_lines front s) ms ≡ behind_lines front (fold (act_on link) s ms)
  rows_behind link [] s = refl
  rows_behind link (m ∷ ms) s = ap (λ (t : PlainState). fold (act_on link) t ms) (act_on_behind link s m) ∙ rows_behind link ms (act_on link s m)

  each_behind : (link : Link) (ms : List Matched) (s : PlainState) → act_on_each link ms (behind_lines front s) ≡ option_map (behind_lines front) (act_on_each link ms s)
  each_behind link [] s = refl
  each_behind link (m ∷ ms) s = ap (λ (t : PlainState). Some t) (rows_behind link (m ∷ ms) (record s { matched = [] }))

  link_behind : (link : Link) (s : PlainState) → after_link link (behind_lines front s) ≡ option_map (behind_lines front) (after_link link s)
  link_behind link s =
      both_sides link.always (ap (λ (t : PlainState). Some t) (act_behind link s)) (each_behind link (matches link s) s)
      ∙ over_choice (option_map (behind_lines front)) link.always (Some (act link s)) (act_on_each link (matches link s) s)

  abbrev pair_behind : Bool × PlainState → Bool × PlainState
  pair_behind x = (x.0, behind_lines front x.1)

  go_on_behind : (o : Option PlainState) (s : PlainState) (rest : PlainState → Bool × PlainState) → ((t : PlainState) → rest (behind_lines front t) ≡ pair_behind (rest t))
      → go_on (option_map (behind_lines front) o) (behind_lines front s) rest ≡ pair_behind (go_on o s rest)
  go_on_behind None s rest h = refl
  go_on_behind (Some t) s rest h = h t

  links_behind : (ls : List Link) (s : PlainState) → after_links ls (behind_lines front s) ≡ pair_behind (after_links ls s)
  links_behind [] s = refl
  links_behind (l ∷ ls) s =
      ap (λ (o : Option PlainState). go_on o (behind_lines front s) (λ t. after_links ls t)) (link_behind l s)
      ∙ go_on_behind (after_link l s) s (λ t. after_links ls t) (λ t. links_behind ls t)

  logged_behind : (r : Rule) (s : PlainState) → logged r (behind_lines front s) ≡ behind_lines front (logged r s)
  logged_behind r s =
      both_sides r.log (ap (λ (ls : List LogLine). record s { lines = ls }) (append_assoc front s.lines (record { rule = r.id; msg = expansion (view_of s) r.msg; detail = expansion (view_of s) r.logdata } ∷ []))) refl
      ∙ over_choice (behind_lines front) r.log _ s

  disruption_behind : (d : Disrupt) (r : Rule) (s : PlainState) → disruption d r (behind_lines front s) ≡ disruption d r s
  disruption_behind disrupts.Pass r s = refl
  disruption_behind disrupts.Deny r s = refl
  disruption_behind disrupts.Drop r s = refl
  disruption_behind (disrupts.Redirect location) r s = refl
  disruption_behind disrupts.Allow r s = refl
  disruption_behind disrupts.AllowPhase r s = refl
  disruption_behind disrupts.AllowRequest r s = refl

  flow_behind : (r : Rule) (s : PlainState) → flow_of r (behind_lines front s) ≡ flow_of r s
  flow_behind r s = both_sides (is_on s.engine && nat_le r.phase 4) (disruption_behind r.disrupt r s) refl

  matched_behind : (r : Rule) (x : Bool × PlainState) → matched_effect r (pair_behind x) ≡ ((behind_lines front (matched_effect r x).0, (matched_effect r x).1))
  matched_behind r (true, s) = ap (λ (t : PlainState). (t, flow_of r t)) (logged_behind r s) ∙ ap (λ (f : RuleFlow). (behind_lines front (logged r s), f)) (flow_behind r (logged r s))
  matched_behind r (false, s) = refl

  effect_behind : (r : Rule) (s : PlainState) → effect r (behind_lines front s) ≡ (behind_lines front (effect r s).0, (effect r s).1)
  effect_behind r s = ap (matched_effect r) (links_behind r.links s) ∙ matched_behind r (after_links r.links s)

  follow_behind : (f : RuleFlow) (s : PlainState) (rest : Passing → PlainState → Run) → ((w : Passing) (t : PlainState) → rest w (behind_lines front t) ≡ run_behind front (rest w t))
      → follow (behind_lines front s) f rest ≡ run_behind front (follow s f rest)
  follow_behind Next s rest h = h Looking s
  follow_behind (Skip n) s rest h = h (Skipping n) s
  follow_behind (SkipTo l) s rest h = h (Until l) s
  follow_behind EndPhase s rest h = refl
  follow_behind EndTo3 s rest h = refl
  follow_behind EndTo5 s rest h = refl
  follow_behind (Interrupt v) s rest h = refl

  look_behind : (r : Rule) (s : PlainState) (rest : Passing → PlainState → Run) → ((w : Passing) (t : PlainState) → rest w (behind_lines front t) ≡ run_behind front (rest w t))
      → look r (behind_lines front s) rest ≡ run_behind front (look r s rest)
  look_behind r s rest h =
      both_sides (is_off s.engine) refl (both_sides (is_removed r s) (h Looking s)
      (ap (λ (x : PlainState × RuleFlow). one_more (follow x.0 x.1 rest)) (effect_behind r s) ∙ ap one_more (follow_behind (effect r s).1 (effect r s).0 rest h))
      ∙ over_choice (run_behind front) (is_removed r s) (rest Looking s) (one_more (follow (effect r s).0 (effect r s).1 rest)))
      ∙ over_choice (run_behind front) (is_off s.engine) (ended s) _

  rule_behind : (w : Passing) (r : Rule) (s : PlainState) (rest : Passing → PlainState → Run) → ((w : Passing) (t : PlainState) → rest w (behind_lines front t) ≡ run_behind front (rest w t))
      → at_rule w r (behind_lines front s) rest ≡ run_behind front (at_rule w r s rest)
  rule_behind Looking r s rest h = look_behind r s rest h
  rule_behind (Skipping zero) r s rest h = look_behind r s rest h
  rule_behind (Skipping (suc n)) r s rest h = h (Skipping n) s
  rule_behind (Until l) r s rest h = h (Until l) s

  walk_behind : (p : ℕ) (items : List Item) (w : Passing) (s : PlainState) → walk p items w (behind_lines front s) ≡ run_behind front (walk p items w s)
  walk_behind p [] w s = refl
  walk_behind p (items.Marker label ∷ left) w s = walk_behind p left (at_marker label w) s
  walk_behind p (items.Rule r ∷ left) w s =
      both_sides (nat_eq r.phase p) (rule_behind w r s (λ v t. walk p left v t) (λ v t. walk_behind p left v t)) (walk_behind p left w s)
      ∙ over_choice (run_behind front) (nat_eq r.phase p) _ _

  opened_behind : (l : Listing) (s : PlainState) → opened l (behind_lines front s) ≡ behind_lines front (opened l s)
  opened_behind l s = over_choice (behind_lines front) s.request_body _ s

  body_behind : (l : Listing) (s : PlainState) → with_body l (behind_lines front s) ≡ run_behind front (with_body l s)
  body_behind l s =
      both_sides (is_rejected l s) refl (walk_behind 2 l.items Looking s)
      ∙ over_choice (run_behind front) (is_rejected l s) (interrupted too_large s) (walk 2 l.items Looking s)

  second_behind : (l : Listing) (s : PlainState) → with_body l (opened l (behind_lines front s)) ≡ run_behind front (with_body l (opened l s))
  second_behind l s = ap (with_body l) (opened_behind l s) ∙ body_behind l (opened l s)

  pub phase_behind : (l : Listing) (p : ℕ) (s : PlainState) → phase l p (behind_lines front s) ≡ run_behind front (phase l p s)
  phase_behind l p s =
      both_sides (nat_lt p s.next_phase) refl
      (both_sides (nat_eq p 2) (second_behind l s) (walk_behind p l.items Looking s) ∙ over_choice (run_behind front) (nat_eq p 2) (with_body l (opened l s)) (walk p l.items Looking s))
      ∙ over_choice (run_behind front) (nat_lt p s.next_phase) (ended s) _

  unless_behind : (v : Option Verdict) (a b : Run) → unless_denied v (run_behind front a) (run_behind front b) ≡ run_behind front (unless_denied v a b)
  unless_behind None a b = refl
  unless_behind (Some v) a b = refl

  pub two_behind : (l : Listing) (p q : ℕ) (s : PlainState) → two_phases l p q (behind_lines front s) ≡ run_behind front (two_phases l p q s)
  two_behind l p q s =
      ap (λ (r : Run). unless_denied r.verdict r (phase l q r.state)) (phase_behind l p s)
      ∙ ap (λ (r : Run). unless_denied (phase l p s).verdict (run_behind front (phase l p s)) r) (phase_behind l q (phase l p s).state)
      ∙ unless_behind (phase l p s).verdict (phase l p s) (phase l q (phase l p s).state)
