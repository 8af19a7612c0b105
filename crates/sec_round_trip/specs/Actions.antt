-- Action lists that are read back from their text.
use Rattle.std.specs.Prelude.{◌≡◌, ◌==◌, ◌≤◌, ◌||◌, ◌&&◌, not, ℕ, Bool, true, false, List, [], ◌∷◌, Option, Some, None, if◌then◌else◌}
use Rattle.std.specs.List.{AllByRecursion, list_any}
use Rattle.sec_ast.specs.PrintActions.{change_of_setting, change_text}
use Rattle.sec_ast.specs.PrintMacros.{macro_text}
use Rattle.sec_ast.specs.declared.action.Change.{Change}
use Rattle.sec_ast.specs.declared.action.Change.TheVariants as changes
use Rattle.sec_ast.specs.declared.action.Ctl.{Ctl}
use Rattle.sec_ast.specs.declared.action.Ctl.TheVariants as ctls
use Rattle.sec_ast.specs.declared.action.Disrupt.{Disrupt}
use Rattle.sec_ast.specs.declared.action.Disrupt.TheVariants as disrupts
use Rattle.sec_ast.specs.declared.action.SetVar.{SetVar}
use Rattle.sec_ast.specs.declared.link.Link.{Link}
use Rattle.sec_ast.specs.declared.macros.Part.{Part}
use Rattle.sec_ast.specs.declared.rule.Rule.{Rule}
use Rattle.sec_ast.specs.declared.settings.Processor.{Processor}
use Rattle.sec_ast.specs.declared.settings.Processor.TheVariants as processors
use Rattle.sec_text.specs.Quotes.{is_blank}
use Rattle.sec_text.specs.Written.{ends_with_backslash}
use Rattle.sec_text.specs.declared.characters.TheConstants.{COMMA, EQUALS, MINUS, PLUS, SINGLE_QUOTE}
use Rattle.sec_parts.specs.declared.acts.Acts.{Acts}
use Rattle.sec_parts.specs.declared.limits.TheConstants.{MAX_ID, MAX_PHASE, MAX_SKIP, MAX_STATUS, MIN_STATUS}
use Rattle.sec_parts.specs.Acts.{no_acts}
use Rattle.sec_parts.specs.Texts.{ends_open, trim_end}
use Rattle.sec_round_trip.specs.Macros.{IsMacro}
use Rattle.sec_round_trip.specs.Targets.{is_empty}

-- ---- values without quotes

abbrev pub is_comma : ℕ → Bool
is_comma b = b == COMMA

-- a value that needs no quotes
abbrev pub begins_unquoted : List ℕ → Bool
begins_unquoted [] = false
begins_unquoted (b ∷ text) = not (is_blank b) && not (b == SINGLE_QUOTE)

pub record IsPlainValue (value : List ℕ) : Type 0 where
  pub commas : list_any is_comma value ≡ false
  pub begins : begins_unquoted value ≡ true
  pub trimmed : trim_end value ≡ value
  pub ends : ends_open value ≡ false

-- ---- values that stand in quotes end with no backslash

abbrev pub IsValue : List ℕ → Type 0
IsValue text = ends_with_backslash text ≡ false

abbrev pub IsMacroValue : List Part → Type 0
IsMacroValue macro = IsMacro macro × IsValue (macro_text macro)

abbrev pub IsDisrupt : Disrupt → Type 0
IsDisrupt (disrupts.Redirect location) = IsMacroValue location × (is_empty (macro_text location) ≡ false)
IsDisrupt other = Unit {0}

abbrev pub IsLabel : Option (List ℕ) → Type 0
IsLabel None = Unit {0}
IsLabel (Some label) = IsValue label × (is_empty label ≡ false)

-- nought, which is not written, or a number within bounds
abbrev pub IsNumber : ℕ → ℕ → ℕ → Type 0
IsNumber low high n = (n == 0) ≡ false → (low ≤ n) × (n ≤ high)

-- ---- setvar and ctl

-- + and - at the front of a value add and subtract
abbrev pub begins_with_sign : List ℕ → Bool
begins_with_sign [] = false
begins_with_sign (b ∷ text) = (b == PLUS) || (b == MINUS)

-- a name ends at the first =
abbrev pub has_equals : List ℕ → Bool
has_equals text = list_any (λ b. b == EQUALS) text

abbrev pub IsChange : List ℕ → Change → Type 0
IsChange name (changes.Put value) = (has_equals name ≡ false) × IsMacro value
    × (begins_with_sign (macro_text value) ≡ false)
IsChange name (changes.Add value) = (has_equals name ≡ false) × IsMacro value
IsChange name (changes.Sub value) = (has_equals name ≡ false) × IsMacro value
IsChange name changes.Delete = Unit {0}

pub record IsSetVar (setvar : SetVar) : Type 0 where
  pub name : IsMacro setvar.name
  pub some : is_empty (macro_text setvar.name) ≡ false
  pub change : IsChange (macro_text setvar.name) setvar.change
  pub ends : IsValue (change_text (macro_text setvar.name) setvar.change)

abbrev pub IsProcessor : Processor → Type 0
IsProcessor processors.Plain = ⊥
IsProcessor other = Unit {0}

abbrev pub IsSetting : Ctl → Type 0
IsSetting (ctls.Body processor) = IsProcessor processor
IsSetting (ctls.RemoveById first last) = (1 ≤ first) × (first ≤ last) × (last ≤ MAX_ID)
IsSetting (ctls.RemoveByTag tag) = is_empty tag ≡ false
IsSetting other = Unit {0}

abbrev pub IsCtl : Ctl → Type 0
IsCtl ctl = IsSetting ctl × IsValue (change_of_setting ctl)

-- ---- the actions of a rule and of a link

pub record IsHead (rule : Rule) : Type 0 where
  pub id : (1 ≤ rule.id) × (rule.id ≤ MAX_ID)
  pub phase : (1 ≤ rule.phase) × (rule.phase ≤ MAX_PHASE)
  pub disrupt : IsDisrupt rule.disrupt
  pub status : IsNumber MIN_STATUS MAX_STATUS rule.status
  pub msg : IsMacroValue rule.msg
  pub logdata : IsMacroValue rule.logdata
  pub tags : AllByRecursion IsValue rule.tags
  pub skip : IsNumber 1 MAX_SKIP rule.skip
  pub label : IsLabel rule.skip_after

pub record IsTail (link : Link) : Type 0 where
  pub setvars : AllByRecursion IsSetVar link.setvars
  pub ctls : AllByRecursion IsCtl link.ctls

-- ---- what they say

abbrev pub unless_zero : ℕ → Option ℕ
unless_zero n = if n == 0 then None else Some n

-- the actions of a link, after those of its rule or none
abbrev pub with_link : Link → Bool → Acts → Acts
with_link link follows acts = record acts {
  chain = follows;
  transforms = link.transforms;
  capture = link.capture;
  multi = link.multi;
  setvars = link.setvars;
  ctls = link.ctls;
}

abbrev pub of_rule : Rule → Acts
of_rule rule = record no_acts {
  id = Some rule.id;
  phase = Some rule.phase;
  msg = rule.msg;
  logdata = rule.logdata;
  tags = rule.tags;
  log = Some rule.log;
  disrupt = Some rule.disrupt;
  status = unless_zero rule.status;
  skip = rule.skip;
  skip_after = rule.skip_after;
}

-- an action list with no piece in it is not written as one
abbrev pub has_pieces : List (List ℕ) → Bool
has_pieces [] = false
has_pieces (piece ∷ pieces) = true
