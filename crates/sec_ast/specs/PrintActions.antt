-- Actions as they are written: the pieces of an action list.
use Rattle.std.specs.Prelude.{ℕ, ◌==◌, Bool, List, [], ◌∷◌, ◌++◌, codes, decimal, map, Option, Some, None, if◌then◌else◌}
use Rattle.sec_ast.specs.PrintMacros.{macro_text}
use Rattle.sec_ast.specs.PrintTexts.{in_quotes}
use Rattle.sec_ast.specs.Settings.{engine_name, processor_name}
use Rattle.sec_ast.specs.Transform.{transform_name}
use Rattle.sec_ast.specs.declared.action.Change.{Change}
use Rattle.sec_ast.specs.declared.action.Change.TheVariants as changes
use Rattle.sec_ast.specs.declared.action.Ctl.{Ctl}
use Rattle.sec_ast.specs.declared.action.Ctl.TheVariants as ctls
use Rattle.sec_ast.specs.declared.action.Disrupt.{Disrupt}
use Rattle.sec_ast.specs.declared.action.Disrupt.TheVariants as disrupts
use Rattle.sec_ast.specs.declared.action.SetVar.{SetVar}
use Rattle.sec_ast.specs.declared.link.Link.{Link}
use Rattle.sec_ast.specs.declared.macros.Part.{Part}
use Rattle.sec_ast.specs.declared.rule.Rule.{Rule}
use Rattle.sec_ast.specs.declared.transform.Transform.{Transform}
use Rattle.sec_text.specs.declared.characters.TheConstants.{SINGLE_QUOTE}

-- a name with its colon, and a value in single quotes
abbrev pub quoted_piece : List ℕ → List ℕ → List ℕ
quoted_piece label text = label ++ in_quotes SINGLE_QUOTE text

abbrev pub number_piece : List ℕ → ℕ → List ℕ
number_piece label n = label ++ decimal n

-- ---- what may be left out: none or one piece

abbrev pub if_not_zero : List ℕ → ℕ → List (List ℕ)
if_not_zero label n = if n == 0 then [] else number_piece label n ∷ []

abbrev pub if_not_empty : List ℕ → List Part → List (List ℕ)
if_not_empty label [] = []
if_not_empty label (part ∷ macro) = quoted_piece label (macro_text (part ∷ macro)) ∷ []

abbrev pub if_there : List ℕ → Option (List ℕ) → List (List ℕ)
if_there label None = []
if_there label (Some text) = quoted_piece label text ∷ []

abbrev pub if_set : List ℕ → Bool → List (List ℕ)
if_set name is_set = if is_set then name ∷ [] else []

-- ---- single actions

abbrev pub disrupt_text : Disrupt → List ℕ
disrupt_text disrupts.Pass = codes "pass"
disrupt_text disrupts.Deny = codes "deny"
disrupt_text disrupts.Drop = codes "drop"
disrupt_text (disrupts.Redirect location) = quoted_piece (codes "redirect:") (macro_text location)
disrupt_text disrupts.Allow = codes "allow"
disrupt_text disrupts.AllowPhase = codes "allow:phase"
disrupt_text disrupts.AllowRequest = codes "allow:request"

abbrev pub log_text : Bool → List ℕ
log_text is_logged = if is_logged then codes "log" else codes "nolog"

abbrev pub transform_text : Transform → List ℕ
transform_text transform = codes "t:" ++ transform_name transform

-- what is put, added or subtracted stands behind the name
abbrev pub change_text : List ℕ → Change → List ℕ
change_text name (changes.Put value) = codes "tx." ++ name ++ codes "=" ++ macro_text value
change_text name (changes.Add value) = codes "tx." ++ name ++ codes "=+" ++ macro_text value
change_text name (changes.Sub value) = codes "tx." ++ name ++ codes "=-" ++ macro_text value
change_text name changes.Delete = codes "!tx." ++ name

abbrev pub setvar_text : SetVar → List ℕ
setvar_text setvar = quoted_piece (codes "setvar:") (change_text (macro_text setvar.name) setvar.change)

abbrev pub switch_text : Bool → List ℕ
switch_text is_on = if is_on then codes "On" else codes "Off"

-- an identifier alone where both ends are equal
abbrev pub range_text : ℕ → ℕ → List ℕ
range_text first last = if first == last then decimal first else decimal first ++ codes "-" ++ decimal last

abbrev pub change_of_setting : Ctl → List ℕ
change_of_setting (ctls.Engine engine) = codes "ruleEngine=" ++ engine_name engine
change_of_setting (ctls.RequestBody is_read) = codes "requestBodyAccess=" ++ switch_text is_read
change_of_setting (ctls.ResponseBody is_read) = codes "responseBodyAccess=" ++ switch_text is_read
change_of_setting (ctls.Body processor) = codes "requestBodyProcessor=" ++ processor_name processor
change_of_setting (ctls.RemoveById first last) = codes "ruleRemoveById=" ++ range_text first last
change_of_setting (ctls.RemoveByTag tag) = codes "ruleRemoveByTag=" ++ tag

abbrev pub ctl_text : Ctl → List ℕ
ctl_text ctl = quoted_piece (codes "ctl:") (change_of_setting ctl)

-- ---- the pieces of a rule, which its first link has, and those of each link

unfoldable pub rule_pieces : Rule → List (List ℕ)
rule_pieces rule =
    number_piece (codes "id:") rule.id ∷ number_piece (codes "phase:") rule.phase ∷ disrupt_text rule.disrupt ∷
    if_not_zero (codes "status:") rule.status ++ log_text rule.log ∷
    if_not_empty (codes "msg:") rule.msg ++ if_not_empty (codes "logdata:") rule.logdata
    ++ map (quoted_piece (codes "tag:")) rule.tags ++ if_not_zero (codes "skip:") rule.skip
    ++ if_there (codes "skipAfter:") rule.skip_after

-- chain where another link follows
unfoldable pub link_pieces : Link → Bool → List (List ℕ)
link_pieces link follows =
    map transform_text link.transforms ++ if_set (codes "capture") link.capture
    ++ if_set (codes "multiMatch") link.multi
    ++ map setvar_text link.setvars ++ map ctl_text link.ctls ++ if_set (codes "chain") follows
