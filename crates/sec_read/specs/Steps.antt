-- What a directive does with its words, after what was read before it.
use Rattle.std.specs.Prelude.{ℕ, List, [], ◌∷◌, ◌++◌, Option, Some, None, Result, Ok, if◌then◌else◌}
use Rattle.sec_ast.specs.declared.Item.TheVariants as items
use Rattle.sec_parts.specs.declared.acts.Acts.{Acts}
use Rattle.sec_parts.specs.declared.kinds.Stand.TheVariants as stands
use Rattle.sec_parts.specs.Acts.{actions_in}
use Rattle.sec_parts.specs.Results.{◌>>=◌}
use Rattle.sec_read.specs.declared.directive.Directive.{Directive}
use Rattle.sec_read.specs.declared.directive.Directive.TheVariants as directives
use Rattle.sec_read.specs.declared.faults.Cause.TheVariants as causes
use Rattle.sec_read.specs.declared.faults.Found.{Found}
use Rattle.sec_read.specs.declared.modes.PatternMode.{PatternMode}
use Rattle.sec_read.specs.declared.reading.Reading.{Reading}
use Rattle.sec_read.specs.declared.reading.Unfinished.{Unfinished}
use Rattle.sec_read.specs.declared.settings.Setting.{Setting}
use Rattle.sec_read.specs.declared.settings.Settings.{Settings}
use Rattle.sec_read.specs.Defaults.{default_of, with_default}
use Rattle.sec_read.specs.Directives.{directive_of, is_left_out}
use Rattle.sec_read.specs.Faults.{fault, placed}
use Rattle.sec_read.specs.FileWords.{Named}
use Rattle.sec_read.specs.Links.{action_line, rule_line}
use Rattle.sec_read.specs.Modes.{mode_named}
use Rattle.sec_read.specs.Removals.{with_ids, with_tag}
use Rattle.sec_read.specs.Settings.{with_setting}

-- ---- directives that are no link of a rule: each by its name as written and the words behind it

abbrev pub marker_line : List ℕ → ℕ → List ℕ → List (List ℕ) → Reading → Result Reading Found
marker_line file line name (label ∷ []) reading =
    Ok (record reading { items = reading.items ++ items.Marker label ∷ [] })
marker_line file line name given reading = fault file line causes.BadWord name

-- the actions must name a phase; text: all of them
abbrev pub with_defaults : List ℕ → ℕ → List ℕ → Option ℕ → Acts → Reading → Result Reading Found
with_defaults file line text None acts reading = fault file line causes.BadWord text
with_defaults file line text (Some phase) acts reading =
    Ok (record reading { defaults = with_default phase (default_of acts) reading.defaults })

abbrev pub default_line : List ℕ → ℕ → List ℕ → List (List ℕ) → Reading → Result Reading Found
default_line file line name (text ∷ []) reading = do
  acts ← placed file line (actions_in stands.Defaults text)
  with_defaults file line text acts.phase acts reading
default_line file line name given reading = fault file line causes.BadWord name

abbrev pub ids_line : List ℕ → ℕ → List ℕ → List (List ℕ) → Reading → Result Reading Found
ids_line file line name [] reading = fault file line causes.BadWord name
ids_line file line name (word ∷ words) reading = do
  removals ← placed file line (with_ids (word ∷ words) reading.removals)
  Ok (record reading { removals = removals })

abbrev pub tag_line : List ℕ → ℕ → List ℕ → List (List ℕ) → Reading → Result Reading Found
tag_line file line name (tag ∷ []) reading = Ok (record reading { removals = with_tag tag reading.removals })
tag_line file line name given reading = fault file line causes.BadWord name

abbrev pub now_set : List ℕ → ℕ → List ℕ → Option Settings → Reading → Result Reading Found
now_set file line word None reading = fault file line causes.BadWord word
now_set file line word (Some settings) reading = Ok (record reading { settings = settings })

abbrev pub setting_line : List ℕ → ℕ → List ℕ → Setting → List (List ℕ) → Reading → Result Reading Found
setting_line file line name setting (word ∷ []) reading =
    now_set file line word (with_setting setting word reading.settings) reading
setting_line file line name setting given reading = fault file line causes.BadWord name

abbrev pub now_read : List ℕ → ℕ → List ℕ → Option PatternMode → Reading → Result Reading Found
now_read file line word None reading = fault file line causes.BadWord word
now_read file line word (Some mode) reading = Ok (record reading { mode = mode })

abbrev pub mode_line : List ℕ → ℕ → List ℕ → List (List ℕ) → Reading → Result Reading Found
mode_line file line name (word ∷ []) reading = now_read file line word (mode_named word) reading
mode_line file line name given reading = fault file line causes.BadWord name

-- ---- a directive, and a file that it names

-- the word of a file that it names, and what was read by then
abbrev pub Answer : Type 0
Answer = Result (Option (List ℕ) × Reading) Found

abbrev pub on : Result Reading Found → Answer
on read = read >>= λ reading. Ok (None, reading)

abbrev pub include_line : List ℕ → ℕ → List ℕ → List (List ℕ) → Reading → Answer
include_line file line name (word ∷ []) reading = Ok (Some word, reading)
include_line file line name given reading = fault file line causes.BadWord name

-- where a rule is unfinished, no directive but a rule's may come
abbrev pub unless_open : {A : Type 0} → List ℕ → Option Unfinished → Result A Found → Result A Found
unless_open file None answer = answer
unless_open file (Some begun) answer = fault file begun.line causes.OpenChain []

abbrev pub apart : List ℕ → ℕ → List ℕ → List (List ℕ) → Reading → Directive → Answer
apart file line name given reading directives.SecMarker = on (marker_line file line name given reading)
apart file line name given reading directives.SecDefaultAction = on (default_line file line name given reading)
apart file line name given reading directives.Include = include_line file line name given reading
apart file line name given reading directives.SecRuleRemoveById = on (ids_line file line name given reading)
apart file line name given reading directives.SecRuleRemoveByTag = on (tag_line file line name given reading)
apart file line name given reading directives.SecPatternMode = on (mode_line file line name given reading)
apart file line name given reading (directives.Set setting) = on (setting_line file line name setting given reading)
apart file line name given reading other = Ok (None, reading)

abbrev pub obeyed : Named → List ℕ → ℕ → List ℕ → List (List ℕ) → Reading → Directive → Answer
obeyed files file line name given reading directives.SecRule = on (rule_line files file line name given reading)
obeyed files file line name given reading directives.SecAction = on (action_line file line name given reading)
obeyed files file line name given reading other =
    unless_open file reading.unfinished (apart file line name given reading other)

abbrev pub known : Named → List ℕ → ℕ → List ℕ → List (List ℕ) → Reading → Option Directive → Answer
known files file line name given reading None = fault file line causes.UnknownDirective name
known files file line name given reading (Some directive) = obeyed files file line name given reading directive

unfoldable pub directive : Named → List ℕ → ℕ → List (List ℕ) → Reading → Answer
directive files file line [] reading = Ok (None, reading)
directive files file line (name ∷ given) reading =
    if is_left_out name then fault file line causes.RefusedByName name
    else known files file line name given reading (directive_of name)
