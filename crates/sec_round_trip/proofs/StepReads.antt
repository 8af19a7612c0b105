-- What a reading holds stays printable with each directive.
use Rattle.std.proofs.Common.{◌≡◌, ℕ, Bool, true, false, List, [], ◌∷◌, Option, Some, None, Result, Ok, Err, refl, subst}
use Rattle.std.specs.List.{AllByRecursion, list_all}
use Rattle.std.specs.Option.{option_map}
use Rattle.sec_ast.specs.Operator.{operator_name}
use Rattle.sec_ast.specs.PrintMacros.{macro_text}
use Rattle.sec_ast.specs.Settings.{engine_named}
use Rattle.sec_ast.specs.Variable.{variable_name}
use Rattle.sec_ast.specs.declared.macros.Part.{Part}
use Rattle.sec_ast.specs.declared.operator.Op.{Op}
use Rattle.sec_ast.specs.declared.operator.OpKind.{OpKind}
use Rattle.sec_ast.specs.declared.operator.OpKind.TheVariants as kinds
use Rattle.sec_ast.specs.declared.settings.Engine.{Engine}
use Rattle.sec_ast.specs.declared.target.Target.{Target}
use Rattle.sec_ast.specs.declared.variable.Var.{Var}
use Rattle.sec_text.specs.Written.{ends_with_backslash}
use Rattle.sec_parts.specs.declared.acts.Acts.{Acts}
use Rattle.sec_parts.specs.declared.kinds.Stand.{Stand}
use Rattle.sec_parts.specs.declared.kinds.Stand.TheVariants as stands
use Rattle.sec_parts.specs.declared.operators.Operator.{Operator}
use Rattle.sec_parts.specs.Acts.{actions_in}
use Rattle.sec_parts.specs.Changes.{switch_named}
use Rattle.sec_parts.specs.Macros.{macro_of}
use Rattle.sec_parts.specs.Numbers.{number_in}
use Rattle.sec_parts.specs.Results.{◌>>=◌}
use Rattle.sec_parts.specs.Targets.{targets_of}
use Rattle.sec_read.specs.declared.directive.Directive.{Directive}
use Rattle.sec_read.specs.declared.directive.Directive.TheVariants as directives
use Rattle.sec_read.specs.declared.faults.Found.{Found}
use Rattle.sec_read.specs.declared.modes.PatternMode.{PatternMode}
use Rattle.sec_read.specs.declared.reading.Reading.{Reading}
use Rattle.sec_read.specs.declared.reading.Unfinished.{Unfinished}
use Rattle.sec_read.specs.declared.removals.Removals.{Removals}
use Rattle.sec_read.specs.declared.settings.Setting.{Setting}
use Rattle.sec_read.specs.declared.settings.Setting.TheVariants as settings
use Rattle.sec_read.specs.declared.settings.Settings.{Settings}
use Rattle.sec_read.specs.Directives.{directive_of, is_left_out}
use Rattle.sec_read.specs.Faults.{placed}
use Rattle.sec_read.specs.FileWords.{Named}
use Rattle.sec_read.specs.Links.{action_line, acting, acts_of, always, linked, rule_line, rule_with, stand_of, tested}
use Rattle.sec_read.specs.Modes.{kind_in, mode_named}
use Rattle.sec_read.specs.Operators.{operator_at}
use Rattle.sec_read.specs.Removals.{with_ids}
use Rattle.sec_read.specs.Settings.{rejection_named, with_setting}
use Rattle.sec_read.specs.Steps.{apart, default_line, directive, ids_line, include_line, known, marker_line, mode_line, now_read, now_set, obeyed, on, setting_line, tag_line, unless_open, with_defaults}
use Rattle.sec_round_trip.specs.Lines.{is_printed}
use Rattle.sec_round_trip.specs.Macros.{IsMacro}
use Rattle.sec_round_trip.specs.Printable.{HoldBytes}
use Rattle.sec_round_trip.proofs.ActionReads.{IsSaid, Within, actions_give, none_said, number_within}
use Rattle.sec_round_trip.proofs.Alike.{Alike}
use Rattle.sec_round_trip.proofs.FileReads.{IsGoodWhole, given_placed, operator_at_gives}
use Rattle.sec_parts.proofs.Given.{Given, given_bind, given_from, given_if}
use Rattle.sec_round_trip.proofs.OperatorReads.{IsGood, good_addresses, good_in_mode, good_operator, good_sound, operator_gives}
use Rattle.sec_round_trip.proofs.Sound.{IsSound}
use Rattle.sec_round_trip.proofs.StateReads.{GoodCondition, GoodReading, linked_good, marker_good, with_default_good}
use Rattle.sec_round_trip.proofs.TargetReads.{AreRead, are_targets, targets_give}
use Rattle.sec_round_trip.proofs.TargetWords.{no_targets, targets_sound}

-- ---- settings

abbrev GoodSettings : Settings → Type 0
GoodSettings settings = Within 1 1073741824 (Some settings.request_limit)

abbrev IfSettings : Option Settings → Type 0
IfSettings None = Unit {0}
IfSettings (Some settings) = GoodSettings settings

engine_set : (o : Option Engine) (settings : Settings) → GoodSettings settings → IfSettings (option_map (λ engine. record settings { engine = engine }) o)
engine_set None settings good = tt
engine_set (Some engine) settings good = good

request_set : (o : Option Bool) (settings : Settings) → GoodSettings settings → IfSettings (option_map (λ is_on. record settings { request_body = is_on }) o)
request_set None settings good = tt
request_set (Some is_on) settings good = good

limit_set : (o : Option ℕ) (settings : Settings) → Within 1 1073741824 o → IfSettings (option_map (λ limit. record settings { request_limit = limit }) o)
limit_set None settings good = tt
limit_set (Some limit) settings good = good

reject_set : (o : Option Bool) (settings : Settings) → GoodSettings settings → IfSettings (option_map (λ rejects. record settings { limit_reject = rejects }) o)
reject_set None settings good = tt
reject_set (Some rejects) settings good = good

response_set : (o : Option Bool) (settings : Settings) → GoodSettings settings → IfSettings (option_map (λ is_on. record settings { response_body = is_on }) o)
response_set None settings good = tt
response_set (Some is_on) settings good = good

setting_good : (kind : Setting) (word : List ℕ) (given : Settings) → GoodSettings given → IfSettings (with_setting kind word given)
setting_good settings.Engine word given good = engine_set (engine_named word) given good
setting_good settings.RequestBodyAccess word given good = request_set (switch_named word) given good
setting_good settings.RequestBodyLimit word given good = limit_set (number_in 1 1073741824 word) given (number_within 1 1073741824 word)
setting_good settings.RequestBodyLimitAction word given good = reject_set (rejection_named word) given good
setting_good settings.ResponseBodyAccess word given good = response_set (switch_named word) given good

now_good : (file : List ℕ) (line : ℕ) (word : List ℕ) (o : Option Settings) (reading : Reading) → IfSettings o → GoodReading reading → Given GoodReading (now_set file line word o reading)
now_good file line word None reading is good = tt
now_good file line word (Some settings) reading is good =
    record { items = good.items; apart = good.apart; few = good.few; begun = good.begun; by_phase = good.by_phase; limit = is }

-- ---- directives that are no link

set_good : (file : List ℕ) (line : ℕ) (name : List ℕ) (kind : Setting) (given : List (List ℕ)) (reading : Reading) → GoodReading reading → Given GoodReading (setting_line file line name kind given reading)
set_good file line name kind [] reading good = tt
set_good file line name kind (word ∷ []) reading good = now_good file line word (with_setting kind word reading.settings) reading (setting_good kind word reading.settings good.limit) good
set_good file line name kind (word ∷ next ∷ more) reading good = tt

marked_good : (file : List ℕ) (line : ℕ) (name : List ℕ) (given : List (List ℕ)) (reading : Reading) → AllByRecursion IsSound given → reading.unfinished ≡ None → GoodReading reading → Given GoodReading (marker_line file line name given reading)
marked_good file line name [] reading are none good = tt
marked_good file line name (label ∷ []) reading are none good = marker_good label reading are.0 none good
marked_good file line name (label ∷ next ∷ more) reading are none good = tt

phase_set : (file : List ℕ) (line : ℕ) (text : List ℕ) (phase : Option ℕ) (acts : Acts) (reading : Reading) → IsSaid acts → GoodReading reading → Given GoodReading (with_defaults file line text phase acts reading)
phase_set file line text None acts reading so good = tt
phase_set file line text (Some phase) acts reading so good =
    record { items = good.items; apart = good.apart; few = good.few; begun = good.begun; by_phase = with_default_good phase acts reading.defaults so good.by_phase; limit = good.limit }

ids_good : (file : List ℕ) (line : ℕ) (name : List ℕ) (given : List (List ℕ)) (reading : Reading) → GoodReading reading → Given GoodReading (ids_line file line name given reading)
ids_good file line name [] reading good = tt
ids_good file line name (word ∷ more) reading good =
    given_bind (λ (r : Removals). Unit {0}) GoodReading (placed file line (with_ids (word ∷ more) reading.removals)) (λ removals. Ok (record reading { removals = removals }))
    (given_from (λ (r : Removals). Unit {0}) (placed file line (with_ids (word ∷ more) reading.removals)) (λ r e. tt)) (λ r h. good)

tags_good : (file : List ℕ) (line : ℕ) (name : List ℕ) (given : List (List ℕ)) (reading : Reading) → GoodReading reading → Given GoodReading (tag_line file line name given reading)
tags_good file line name [] reading good = tt
tags_good file line name (tag ∷ []) reading good = good
tags_good file line name (tag ∷ next ∷ more) reading good = tt

mode_set : (file : List ℕ) (line : ℕ) (word : List ℕ) (o : Option PatternMode) (reading : Reading) → GoodReading reading → Given GoodReading (now_read file line word o reading)
mode_set file line word None reading good = tt
mode_set file line word (Some mode) reading good = good

mode_good : (file : List ℕ) (line : ℕ) (name : List ℕ) (given : List (List ℕ)) (reading : Reading) → GoodReading reading → Given GoodReading (mode_line file line name given reading)
mode_good file line name [] reading good = tt
mode_good file line name (word ∷ []) reading good = mode_set file line word (mode_named word) reading good
mode_good file line name (word ∷ next ∷ more) reading good = tt

-- a word that names a file, and what was read
abbrev pub GoodAnswer : Option (List ℕ) × Reading → Type 0
GoodAnswer x = GoodReading x.1

included_good : (file : List ℕ) (line : ℕ) (name : List ℕ) (given : List (List ℕ)) (reading : Reading) → GoodReading reading → Given GoodAnswer (include_line file line name given reading)
included_good file line name [] reading good = tt
included_good file line name (word ∷ []) reading good = good
included_good file line name (word ∷ next ∷ more) reading good = tt

on_good : (r : Result Reading Found) → Given GoodReading r → Given GoodAnswer (on r)
on_good (Ok reading) good = good
on_good (Err e) good = tt

pub unless_good : {A : Type 0} (P : A → Type 0) (file : List ℕ) (o : Option Unfinished) (answer : Result A Found) → (o ≡ None → Given P answer) → Given P (unless_open file o answer)
unless_good P file None answer good = good refl
unless_good P file (Some begun) answer good = tt

module _ (macros : (text : List ℕ) (macro : List Part) → macro_of text ≡ Ok macro → IsMacro macro)
    (alike : (text : List ℕ) (macro : List Part) → macro_of text ≡ Ok macro → Alike true text (macro_text macro)) where
  default_line_good : (file : List ℕ) (line : ℕ) (name : List ℕ) (given : List (List ℕ)) (reading : Reading) → AllByRecursion IsSound given → GoodReading reading → Given GoodReading (default_line file line name given reading)
  default_line_good file line name [] reading are good = tt
  default_line_good file line name (text ∷ []) reading are good =
      given_bind IsSaid GoodReading (placed file line (actions_in stands.Defaults text)) (λ acts. with_defaults file line text acts.phase acts reading) (given_placed IsSaid file line (actions_in stands.Defaults text) (actions_give macros alike stands.Defaults text are.0.fine))
      (λ acts so. phase_set file line text acts.phase acts reading so good)
  default_line_good file line name (text ∷ next ∷ more) reading are good = tt

  -- ---- links

  acts_good : (stand : Stand) (o : Option (List ℕ)) → ((text : List ℕ) → o ≡ Some text → IsSound text) → Given IsSaid (acts_of stand o)
  acts_good stand None sound = none_said
  acts_good stand (Some text) sound = actions_give macros alike stand text (sound text refl).fine

  module _ (var_printed : (var : Var) → list_all is_printed (variable_name var) ≡ true) (var_backslash : (var : Var) → ends_with_backslash (variable_name var) ≡ false)
      (op_printed : (kind : OpKind) → list_all is_printed (operator_name kind) ≡ true) (op_backslash : (kind : OpKind) → ends_with_backslash (operator_name kind) ≡ false) where
    tested_good : (mode : PatternMode) (targets : List Target) (operator : Operator) → AreRead true targets → IsGood operator.op → GoodCondition (tested mode targets operator)
    tested_good mode targets operator are good =
        let op : Op = record operator.op { kind = kind_in mode operator.op.kind } in
        let read : IsGood op = good_in_mode mode operator.op good in
        record {
          tested = λ acts. record { targets = are_targets true targets are; operator = good_operator op read; addresses = good_addresses op read };
          targets = targets_sound var_printed var_backslash targets are;
          operator = good_sound op_printed op_backslash operator.negated op read;
        }

    always_good : GoodCondition always
    always_good = record {
      tested = λ acts. record { targets = refl; negated = refl; op = refl };
      targets = no_targets;
      operator = good_sound op_printed op_backslash false (record { kind = kinds.UnconditionalMatch; text = []; words = [] }) (refl, refl);
    }

    acting_good : (file : List ℕ) (line : ℕ) (targets : List Target) (actions : Option (List ℕ)) (reading : Reading) (stated : Operator × ℕ) → AreRead true targets → ((text : List ℕ) → actions ≡ Some text → IsSound text) → IsGoodWhole stated → GoodReading reading
        → Given GoodReading (acting file line targets actions reading stated)
    acting_good file line targets actions reading stated are sound is good =
        given_bind IsSaid GoodReading (placed file line (acts_of (stand_of reading.unfinished) actions)) (λ acts. linked file line (tested reading.mode targets stated.0) acts reading.unfinished (record reading { total = stated.1 }))
        (given_placed IsSaid file line (acts_of (stand_of reading.unfinished) actions) (acts_good (stand_of reading.unfinished) actions sound))
        (λ acts so. linked_good file line (tested reading.mode targets stated.0) acts reading.unfinished (record reading { total = stated.1 }) good.begun (tested_good reading.mode targets stated.0 are is) so good)

    action_good : (file : List ℕ) (line : ℕ) (name : List ℕ) (given : List (List ℕ)) (reading : Reading) → AllByRecursion IsSound given → GoodReading reading → Given GoodReading (action_line file line name given reading)
    action_good file line name [] reading are good = tt
    action_good file line name (actions ∷ []) reading are good =
        given_bind IsSaid GoodReading (placed file line (actions_in (stand_of reading.unfinished) actions)) (λ acts. linked file line always acts reading.unfinished reading)
        (given_placed IsSaid file line (actions_in (stand_of reading.unfinished) actions) (actions_give macros alike (stand_of reading.unfinished) actions are.0.fine))
        (λ acts so. linked_good file line always acts reading.unfinished reading good.begun always_good so good)
    action_good file line name (actions ∷ next ∷ more) reading are good = tt

    module _ (files : Named) (bytes : HoldBytes files) where
      with_good : (file : List ℕ) (line : ℕ) (targets operator : List ℕ) (actions : Option (List ℕ)) (reading : Reading) → IsSound targets → IsSound operator → ((text : List ℕ) → actions ≡ Some text → IsSound text) → GoodReading reading
          → Given GoodReading (rule_with files file line targets operator actions reading)
      unfolding rule_with
      with_good file line targets operator actions reading a b c good =
          given_bind (AreRead true) GoodReading (placed file line (targets_of targets)) (λ list. operator_at files file line operator reading.total >>= λ stated. acting file line list actions reading stated)
          (given_placed (AreRead true) file line (targets_of targets) (targets_give true targets a.fine))
          (λ list are. given_bind IsGoodWhole GoodReading (operator_at files file line operator reading.total) (λ stated. acting file line list actions reading stated)
          (operator_at_gives files bytes file line operator reading.total (operator_gives macros alike operator b))
          (λ stated is. acting_good file line list actions reading stated are c is good))

      one_word : (word : List ℕ) → IsSound word → (text : List ℕ) → Some word ≡ Some text → IsSound text
      one_word word is text e = subst IsSound (some_same word text e) is
        where
          some_same : (a b : List ℕ) → Some a ≡ Some b → a ≡ b
          some_same a b e = cc

      no_word : (text : List ℕ) → None ≡ Some text → IsSound text
      no_word text e = absurd cc

      rule_line_good : (file : List ℕ) (line : ℕ) (name : List ℕ) (given : List (List ℕ)) (reading : Reading) → AllByRecursion IsSound given → GoodReading reading → Given GoodReading (rule_line files file line name given reading)
      rule_line_good file line name [] reading are good = tt
      rule_line_good file line name (targets ∷ []) reading are good = tt
      rule_line_good file line name (targets ∷ operator ∷ []) reading are good = with_good file line targets operator None reading are.0 are.1.0 no_word good
      rule_line_good file line name (targets ∷ operator ∷ actions ∷ []) reading are good = with_good file line targets operator (Some actions) reading are.0 are.1.0 (one_word actions are.1.1.0) good
      rule_line_good file line name (targets ∷ operator ∷ actions ∷ next ∷ more) reading are good = tt

      -- ---- directives

      apart_good : (file : List ℕ) (line : ℕ) (name : List ℕ) (given : List (List ℕ)) (reading : Reading) (kind : Directive) → AllByRecursion IsSound given → reading.unfinished ≡ None → GoodReading reading → Given GoodAnswer (apart file line name given reading kind)
      apart_good file line name given reading directives.SecRule are none good = good
      apart_good file line name given reading directives.SecAction are none good = good
      apart_good file line name given reading directives.SecMarker are none good = on_good (marker_line file line name given reading) (marked_good file line name given reading are none good)
      apart_good file line name given reading directives.SecDefaultAction are none good = on_good (default_line file line name given reading) (default_line_good file line name given reading are good)
      apart_good file line name given reading directives.Include are none good = included_good file line name given reading good
      apart_good file line name given reading directives.SecRuleRemoveById are none good = on_good (ids_line file line name given reading) (ids_good file line name given reading good)
      apart_good file line name given reading directives.SecRuleRemoveByTag are none good = on_good (tag_line file line name given reading) (tags_good file line name given reading good)
      apart_good file line name given reading directives.SecPatternMode are none good = on_good (mode_line file line name given reading) (mode_good file line name given reading good)
      apart_good file line name given reading (directives.Set setting) are none good = on_good (setting_line file line name setting given reading) (set_good file line name setting given reading good)
      apart_good file line name given reading directives.Accepted are none good = good

      other_good : (file : List ℕ) (line : ℕ) (name : List ℕ) (given : List (List ℕ)) (reading : Reading) (kind : Directive) → AllByRecursion IsSound given → GoodReading reading
          → Given GoodAnswer (unless_open file reading.unfinished (apart file line name given reading kind))
      other_good file line name given reading kind are good =
          unless_good GoodAnswer file reading.unfinished (apart file line name given reading kind) (λ none. apart_good file line name given reading kind are none good)

      obeyed_good : (file : List ℕ) (line : ℕ) (name : List ℕ) (given : List (List ℕ)) (reading : Reading) (kind : Directive) → AllByRecursion IsSound given → GoodReading reading → Given GoodAnswer (obeyed files file line name given reading kind)
      obeyed_good file line name given reading directives.SecRule are good = on_good (rule_line files file line name given reading) (rule_line_good file line name given reading are good)
      obeyed_good file line name given reading directives.SecAction are good = on_good (action_line file line name given reading) (action_good file line name given reading are good)
      obeyed_good file line name given reading directives.SecMarker are good = other_good file line name given reading directives.SecMarker are good
      obeyed_good file line name given reading directives.SecDefaultAction are good = other_good file line name given reading directives.SecDefaultAction are good
      obeyed_good file line name given reading directives.Include are good = other_good file line name given reading directives.Include are good
      obeyed_good file line name given reading directives.SecRuleRemoveById are good = other_good file line name given reading directives.SecRuleRemoveById are good
      obeyed_good file line name given reading directives.SecRuleRemoveByTag are good = other_good file line name given reading directives.SecRuleRemoveByTag are good
      obeyed_good file line name given reading directives.SecPatternMode are good = other_good file line name given reading directives.SecPatternMode are good
      obeyed_good file line name given reading (directives.Set setting) are good = other_good file line name given reading (directives.Set setting) are good
      obeyed_good file line name given reading directives.Accepted are good = other_good file line name given reading directives.Accepted are good

      known_good : (file : List ℕ) (line : ℕ) (name : List ℕ) (given : List (List ℕ)) (reading : Reading) (o : Option Directive) → AllByRecursion IsSound given → GoodReading reading → Given GoodAnswer (known files file line name given reading o)
      known_good file line name given reading None are good = tt
      known_good file line name given reading (Some kind) are good = obeyed_good file line name given reading kind are good

      pub directive_good : (file : List ℕ) (line : ℕ) (given : List (List ℕ)) (reading : Reading) → AllByRecursion IsSound given → GoodReading reading → Given GoodAnswer (directive files file line given reading)
      unfolding directive
      directive_good file line [] reading are good = good
      directive_good file line (name ∷ given) reading are good =
          given_if GoodAnswer (is_left_out name) _ (known files file line name given reading (directive_of name)) (λ h. tt) (λ h. known_good file line name given reading (directive_of name) are.1 good)
