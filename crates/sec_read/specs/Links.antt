-- Rules, link by link.
use Rattle.std.specs.Prelude.{ℕ, Bool, true, false, nat_le, decimal, unwrap_or, List, [], ◌∷◌, ◌++◌, length, Option, Some, None, Result, Ok, if◌then◌else◌}
use Rattle.sec_ast.specs.declared.Item.TheVariants as items
use Rattle.sec_ast.specs.declared.Link.{Link}
use Rattle.sec_ast.specs.declared.OpKind.TheVariants as kinds
use Rattle.sec_ast.specs.declared.Rule.{Rule}
use Rattle.sec_ast.specs.declared.Target.{Target}
use Rattle.sec_parts.specs.declared.acts.Acts.{Acts}
use Rattle.sec_parts.specs.declared.faults.Bad.{Bad}
use Rattle.sec_parts.specs.declared.kinds.Stand.{Stand}
use Rattle.sec_parts.specs.declared.kinds.Stand.TheVariants as stands
use Rattle.sec_parts.specs.declared.operators.Operator.{Operator}
use Rattle.sec_parts.specs.Acts.{actions_in, no_acts}
use Rattle.sec_parts.specs.Results.{◌>>=◌}
use Rattle.sec_parts.specs.Targets.{targets_of}
use Rattle.sec_read.specs.declared.defaults.PhaseDefault.{PhaseDefault}
use Rattle.sec_read.specs.declared.faults.Cause.TheVariants as causes
use Rattle.sec_read.specs.declared.faults.Found.{Found}
use Rattle.sec_read.specs.declared.links.TheConstants.{DEFAULT_PHASE, LINK_LIMIT}
use Rattle.sec_read.specs.declared.links.Condition.{Condition}
use Rattle.sec_read.specs.declared.modes.PatternMode.{PatternMode}
use Rattle.sec_read.specs.declared.reading.Reading.{Reading}
use Rattle.sec_read.specs.declared.reading.Unfinished.{Unfinished}
use Rattle.sec_read.specs.Defaults.{default_at}
use Rattle.sec_read.specs.Faults.{fault, placed}
use Rattle.sec_read.specs.FileWords.{Named}
use Rattle.sec_read.specs.Items.{has_id, is_full}
use Rattle.sec_read.specs.Modes.{kind_in}
use Rattle.sec_read.specs.Operators.{operator_at}

-- ---- what a link tests

-- a pattern is read in the mode that is in force
abbrev pub tested : PatternMode → List Target → Operator → Condition
tested mode targets operator = record {
  targets = targets;
  always = false;
  negated = operator.negated;
  op = record operator.op { kind = kind_in mode operator.op.kind };
}

-- of a SecAction
abbrev pub always : Condition
always = record {
  targets = [];
  always = true;
  negated = false;
  op = record { kind = kinds.UnconditionalMatch; text = []; words = [] };
}

abbrev pub link_of : Condition → Acts → Link
link_of condition acts = record {
  targets = condition.targets;
  always = condition.always;
  negated = condition.negated;
  op = condition.op;
  transforms = acts.transforms;
  capture = acts.capture;
  multi = acts.multi;
  setvars = acts.setvars;
  ctls = acts.ctls;
}

-- ---- rules

-- where it names none, that of the body of a request
abbrev pub phase_of : Acts → ℕ
phase_of acts = unwrap_or acts.phase DEFAULT_PHASE

-- a rule by its first link; what that does not name is as the phase's defaults are
abbrev pub rule_of : List ℕ → ℕ → ℕ → Condition → Acts → PhaseDefault → Rule
rule_of file line id condition acts default = record {
  id = id;
  phase = phase_of acts;
  links = link_of condition acts ∷ [];
  disrupt = unwrap_or acts.disrupt default.disrupt;
  status = unwrap_or acts.status default.status;
  log = unwrap_or acts.log default.log;
  msg = acts.msg;
  logdata = acts.logdata;
  tags = acts.tags;
  skip = acts.skip;
  skip_after = acts.skip_after;
  place = record { file = file; line = line };
}

-- a link with `chain` leaves its rule unfinished
abbrev pub with_rule : Bool → ℕ → Rule → Reading → Reading
with_rule true line rule reading = record reading { unfinished = Some (record { rule = rule; line = line }) }
with_rule false line rule reading = record reading { items = reading.items ++ items.Rule rule ∷ []; unfinished = None }

abbrev pub first_link : List ℕ → ℕ → Condition → Option ℕ → Acts → Reading → Result Reading Found
first_link file line condition None acts reading = fault file line causes.NoId []
first_link file line condition (Some id) acts reading =
    if has_id id reading.items then fault file line causes.DoubleId (decimal id)
    else (if is_full reading.items then fault file line causes.TooLong (decimal id)
    else Ok (with_rule acts.chain line
    (rule_of file line id condition acts (default_at (phase_of acts) reading.defaults)) reading))

-- a rule has no more links than its limit
abbrev pub further_link : List ℕ → ℕ → Condition → Acts → Rule → Reading → Result Reading Found
further_link file line condition acts rule reading =
    if nat_le LINK_LIMIT (length rule.links) then fault file line causes.TooLong []
    else Ok (with_rule acts.chain line (record rule { links = rule.links ++ link_of condition acts ∷ [] }) reading)

abbrev pub linked : List ℕ → ℕ → Condition → Acts → Option Unfinished → Reading → Result Reading Found
linked file line condition acts None reading = first_link file line condition acts.id acts reading
linked file line condition acts (Some begun) reading = further_link file line condition acts begun.rule reading

-- ---- the words of a link

abbrev pub stand_of : Option Unfinished → Stand
stand_of None = stands.First
stand_of (Some begun) = stands.Later

-- an action list may be missing
abbrev pub acts_of : Stand → Option (List ℕ) → Result Acts Bad
acts_of stand None = Ok no_acts
acts_of stand (Some text) = actions_in stand text

-- targets and an operator were read, with the bytes of texts by then; the actions come last
abbrev pub acting : List ℕ → ℕ → List Target → Option (List ℕ) → Reading → Operator × ℕ → Result Reading Found
acting file line targets actions reading stated = do
  acts ← placed file line (acts_of (stand_of reading.unfinished) actions)
  linked file line (tested reading.mode targets stated.0) acts reading.unfinished (record reading { total = stated.1 })

unfoldable pub rule_with : Named → List ℕ → ℕ → List ℕ → List ℕ → Option (List ℕ) → Reading → Result Reading Found
rule_with files file line targets operator actions reading = do
  targets ← placed file line (targets_of targets)
  stated ← operator_at files file line operator reading.total
  acting file line targets actions reading stated

abbrev pub rule_line : Named → List ℕ → ℕ → List ℕ → List (List ℕ) → Reading → Result Reading Found
rule_line files file line name (targets ∷ operator ∷ []) reading =
    rule_with files file line targets operator None reading
rule_line files file line name (targets ∷ operator ∷ actions ∷ []) reading =
    rule_with files file line targets operator (Some actions) reading
rule_line files file line name given reading = fault file line causes.BadWord name

abbrev pub action_line : List ℕ → ℕ → List ℕ → List (List ℕ) → Reading → Result Reading Found
action_line file line name (actions ∷ []) reading = do
  acts ← placed file line (actions_in (stand_of reading.unfinished) actions)
  linked file line always acts reading.unfinished reading
action_line file line name given reading = fault file line causes.BadWord name
