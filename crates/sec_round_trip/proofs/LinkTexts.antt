-- A link is read from its line.
use Rattle.std.proofs.Common.{◌≡◌, ℕ, Bool, true, false, List, [], ◌∷◌, Option, Some, None, Ok, refl, sym, ap, ◌∙◌, inl, inr, subst, codes}
use Rattle.std.specs.Prelude.{if◌then◌else◌}
use Rattle.std.specs.List.{AllByRecursion}
use Rattle.std.proofs.lemmas.Bool.{cases_Bool}
use Rattle.sec_ast.specs.PrintOperators.{operator_text}
use Rattle.sec_ast.specs.PrintRules.{action_word, condition_words}
use Rattle.sec_ast.specs.PrintTargets.{targets_text}
use Rattle.sec_ast.specs.declared.link.Link.{Link}
use Rattle.sec_ast.specs.declared.operator.Op.{Op}
use Rattle.sec_ast.specs.declared.operator.OpKind.{OpKind}
use Rattle.sec_ast.specs.declared.target.Target.{Target}
use Rattle.sec_parts.specs.declared.acts.Acts.{Acts}
use Rattle.sec_parts.specs.declared.kinds.Stand.{Stand}
use Rattle.sec_parts.specs.declared.kinds.Stand.TheVariants as stands
use Rattle.sec_parts.specs.declared.operators.Operator.{Operator}
use Rattle.sec_parts.specs.Acts.{actions_in, no_acts}
use Rattle.sec_parts.specs.Operators.{operator_of}
use Rattle.sec_parts.specs.Targets.{targets_of}
use Rattle.sec_read.specs.declared.directive.Directive.TheVariants as directives
use Rattle.sec_read.specs.declared.links.Condition.{Condition}
use Rattle.sec_read.specs.declared.modes.PatternMode.TheVariants as modes
use Rattle.sec_read.specs.declared.reading.Reading.{Reading}
use Rattle.sec_read.specs.Directives.{directive_named, is_accepted, is_left_out}
use Rattle.sec_read.specs.FileWords.{Named}
use Rattle.sec_read.specs.Links.{acts_of, always, linked, rule_with, stand_of}
use Rattle.sec_read.specs.Operators.{first_bad, is_address_word, is_of_addresses, operator_at}
use Rattle.sec_read.specs.Steps.{directive, on}
use Rattle.sec_round_trip.specs.Directives.{Directive, link_directive}
use Rattle.sec_round_trip.specs.Operators.{IsOperator}
use Rattle.sec_round_trip.specs.Printable.{HasAddresses, IsCondition, IsTested, IsUntested}
use Rattle.sec_round_trip.specs.Targets.{AreTargets}
use Rattle.sec_round_trip.proofs.LineSteps.{by_name}

-- ---- operators, with their addresses

abbrev pub stated : Bool → Op → Operator
stated negated op = record { negated = negated; op = op; file = None }

none_bad : (words : List (List ℕ)) → AllByRecursion (λ word. is_address_word word ≡ true) words → first_bad words ≡ None
none_bad [] are = refl
none_bad (word ∷ words) are = rw are.0 (none_bad words are.1)

unless_addresses : (kind : OpKind) (words : List (List ℕ)) → (is_of_addresses kind ≡ true → AllByRecursion (λ word. is_address_word word ≡ true) words)
    → (if is_of_addresses kind then first_bad words else None) ≡ None
unless_addresses kind words are = elim (cases_Bool (is_of_addresses kind)) [
  | inl is ↦ rw is (none_bad words (are is))
  | inr not_is ↦ rw not_is refl
]

-- what a link tests
abbrev pub condition_of : Link → Condition
condition_of link = record { targets = link.targets; always = link.always; negated = link.negated; op = link.op }

untested : (link : Link) → link.always ≡ true → IsUntested link → condition_of link ≡ always
untested link is are = rw (is, are.targets, are.negated, are.op) refl

tested : (link : Link) → link.always ≡ false → condition_of link ≡ record { targets = link.targets; always = false; negated = link.negated; op = link.op }
tested link is = ap (λ (b : Bool). record { targets = link.targets; always = b; negated = link.negated; op = link.op }) is

action_is : (link : Link) (actions : List ℕ) → link.always ≡ true → link_directive link actions ≡ (codes "SecAction", action_word actions ∷ [])
action_is link actions is = rw is refl

rule_directive_is : (link : Link) (actions : List ℕ) → link.always ≡ false → link_directive link actions ≡ (codes "SecRule", condition_words link actions)
rule_directive_is link actions is = rw is refl

-- ---- what the actions of a link say; only a later link can have none

abbrev pub Tells : Stand → List ℕ → Acts → Type 0
Tells stand [] acts = (stand ≡ stands.Later) × (acts ≡ no_acts)
Tells stand (b ∷ text) acts = actions_in stand (b ∷ text) ≡ Ok acts

module _ (files : Named) (file : List ℕ) (targets : (list : List Target) → AreTargets list → targets_of (targets_text list) ≡ Ok list)
    (operators : (negated : Bool) (op : Op) → IsOperator op → operator_of (operator_text negated op) ≡ Ok (stated negated op))
    (nothing : actions_in stands.Later (action_word []) ≡ Ok no_acts) where
  operator_is : (n total : ℕ) (negated : Bool) (op : Op) → IsOperator op → HasAddresses op → operator_at files file n (operator_text negated op) total ≡ Ok (stated negated op, total)
  unfolding operator_at
  operator_is n total negated op is are = rw (operators negated op is, unless_addresses op.kind op.words are) refl

  rule_is : (n : ℕ) (link : Link) (actions : Option (List ℕ)) (acts : Acts) (reading : Reading) → reading.mode ≡ modes.Unicode → IsTested link → acts_of (stand_of reading.unfinished) actions ≡ Ok acts
      → rule_with files file n (targets_text link.targets) (operator_text link.negated link.op) actions reading
      ≡ linked file n (record { targets = link.targets; always = false; negated = link.negated; op = link.op }) acts reading.unfinished reading
  unfolding rule_with
  rule_is n link actions acts reading mode is says = rw (targets link.targets is.targets, operator_is n reading.total link.negated link.op is.operator is.addresses, says, mode) refl

  rule_line_is : (n : ℕ) (link : Link) (actions : List ℕ) (acts : Acts) (reading : Reading) → reading.mode ≡ modes.Unicode → IsTested link → Tells (stand_of reading.unfinished) actions acts
      → directive files file n (codes "SecRule" ∷ condition_words link actions) reading
      ≡ on (linked file n (record { targets = link.targets; always = false; negated = link.negated; op = link.op }) acts reading.unfinished reading)
  unfolding is_left_out is_accepted directive_named
  rule_line_is n link [] acts reading mode is says =
      by_name files file n (codes "SecRule") (condition_words link []) directives.SecRule reading refl refl
      ∙ ap on (rule_is n link None acts reading mode is (ap (λ (a : Acts). Ok a) (sym says.1)))
  rule_line_is n link (b ∷ actions) acts reading mode is says =
      by_name files file n (codes "SecRule") (condition_words link (b ∷ actions)) directives.SecRule reading refl refl
      ∙ ap on (rule_is n link (Some (b ∷ actions)) acts reading mode is says)

  told : (stand : Stand) (actions : List ℕ) (acts : Acts) → Tells stand actions acts → actions_in stand (action_word actions) ≡ Ok acts
  told stand [] acts says = ap (λ (s : Stand). actions_in s (action_word [])) says.0 ∙ nothing ∙ ap (λ (a : Acts). Ok a) (sym says.1)
  told stand (b ∷ actions) acts says = says

  action_line_is : (n : ℕ) (actions : List ℕ) (acts : Acts) (reading : Reading) → Tells (stand_of reading.unfinished) actions acts
      → directive files file n (codes "SecAction" ∷ action_word actions ∷ []) reading ≡ on (linked file n always acts reading.unfinished reading)
  unfolding is_left_out is_accepted directive_named
  action_line_is n actions acts reading says =
      by_name files file n (codes "SecAction") (action_word actions ∷ []) directives.SecAction reading refl refl
      ∙ rw (told (stand_of reading.unfinished) actions acts says) refl

  pub link_does : (n : ℕ) (link : Link) (actions : List ℕ) (acts : Acts) (reading : Reading) → reading.mode ≡ modes.Unicode → IsCondition link.always link → Tells (stand_of reading.unfinished) actions acts
      → directive files file n ((link_directive link actions).0 ∷ (link_directive link actions).1) reading ≡ on (linked file n (condition_of link) acts reading.unfinished reading)
  link_does n link actions acts reading mode is says = by_kind link.always refl
    where
      by_kind : (b : Bool) → link.always ≡ b → directive files file n ((link_directive link actions).0 ∷ (link_directive link actions).1) reading ≡ on (linked file n (condition_of link) acts reading.unfinished reading)
      by_kind true kind =
          ap (λ (d : Directive). directive files file n (d.0 ∷ d.1) reading) (action_is link actions kind)
          ∙ action_line_is n actions acts reading says
          ∙ ap (λ (c : Condition). on (linked file n c acts reading.unfinished reading)) (sym (untested link kind (subst (λ (b : Bool). IsCondition b link) kind is)))
      by_kind false kind =
          ap (λ (d : Directive). directive files file n (d.0 ∷ d.1) reading) (rule_directive_is link actions kind)
          ∙ rule_line_is n link actions acts reading mode (subst (λ (b : Bool). IsCondition b link) kind is) says
          ∙ ap (λ (c : Condition). on (linked file n c acts reading.unfinished reading)) (sym (tested link kind))
