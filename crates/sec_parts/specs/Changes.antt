-- What setvar and ctl say.
use Rattle.std.specs.Prelude.{ℕ, ◌==◌, Bool, true, false, nat_le, codes, find, List, [], ◌∷◌, length, take, drop, Option, Some, None, Result, Ok, if◌then◌else◌}
use Rattle.std.specs.List.{list_any}
use Rattle.std.specs.Str.{str_eq_ignore_ascii_case}
use Rattle.sec_ast.specs.Names.{is_one_of}
use Rattle.sec_ast.specs.Settings.{engine_named, processor_named}
use Rattle.sec_ast.specs.declared.Change.{Change}
use Rattle.sec_ast.specs.declared.Change.TheVariants as changes
use Rattle.sec_ast.specs.declared.Ctl.TheVariants as ctls
use Rattle.sec_ast.specs.declared.Engine.{Engine}
use Rattle.sec_ast.specs.declared.Part.TheVariants as parts
use Rattle.sec_ast.specs.declared.Processor.{Processor}
use Rattle.sec_parts.specs.declared.faults.Bad.{Bad}
use Rattle.sec_parts.specs.declared.controls.CtlKind.{CtlKind}
use Rattle.sec_parts.specs.declared.controls.CtlKind.TheVariants as kinds
use Rattle.sec_parts.specs.declared.limits.TheConstants.{MAX_ID}
use Rattle.sec_parts.specs.declared.actions.Action.{Action}
use Rattle.sec_parts.specs.declared.actions.Action.TheVariants as actions
use Rattle.sec_parts.specs.Results.{◌>>=◌, bad, refused}
use Rattle.sec_parts.specs.Numbers.{number_in}
use Rattle.sec_parts.specs.Texts.{begins_named, to_byte}
use Rattle.sec_parts.specs.Macros.{macro_of}
use Rattle.sec_text.specs.declared.characters.TheConstants.{EQUALS, EXCLAMATION_MARK, MINUS, PLUS}

-- ---- setvar; piece: the whole piece, which is the word of a fault

-- + adds, - subtracts, else the value is put
abbrev pub change_to : List ℕ → Result Change Bad
change_to [] = macro_of [] >>= λ value. Ok (changes.Put value)
change_to (b ∷ value) =
    if b == PLUS then (macro_of value >>= λ parts. Ok (changes.Add parts))
    else (if b == MINUS then (macro_of value >>= λ parts. Ok (changes.Sub parts))
    else (macro_of (b ∷ value) >>= λ parts. Ok (changes.Put parts)))

-- what stands from = on; without it 1 is put
abbrev pub change_of : List ℕ → Result Change Bad
change_of [] = Ok (changes.Put (parts.Text (codes "1") ∷ []))
change_of (equals ∷ value) = change_to value

abbrev pub assigned : List ℕ → List ℕ → List ℕ → Result Action Bad
assigned piece [] value = bad piece
assigned piece (b ∷ name) value = do
  parts ← macro_of (b ∷ name)
  change ← change_of value
  Ok (actions.SetVar (record { name = parts; change = change }))

-- a name up to =
abbrev pub assignment : List ℕ → List ℕ → Result Action Bad
assignment piece text = assigned piece (take (to_byte EQUALS text) text) (drop (to_byte EQUALS text) text)

abbrev pub deletion : List ℕ → List ℕ → Result Action Bad
deletion piece [] = bad piece
deletion piece (b ∷ name) =
    macro_of (b ∷ name) >>= λ parts. Ok (actions.SetVar (record { name = parts; change = changes.Delete }))

-- collections that last longer than a transaction
unfoldable pub is_refused_collection : List ℕ → Bool
is_refused_collection text =
    list_any (λ name. begins_named name text)
    (codes "ip." ∷ codes "session." ∷ codes "user." ∷ codes "global." ∷ codes "resource." ∷ [])

-- before the name of a variable of the collection TX
abbrev pub tx_prefix : List ℕ
tx_prefix = codes "tx."

unfoldable pub is_of_tx : List ℕ → Bool
is_of_tx text = begins_named tx_prefix text

abbrev pub put_of : List ℕ → List ℕ → Result Action Bad
put_of piece text =
    if is_refused_collection text then refused text
    else (if is_of_tx text then assignment piece (drop (length tx_prefix) text) else bad piece)

abbrev pub delete_of : List ℕ → List ℕ → List ℕ → Result Action Bad
delete_of piece value text =
    if is_refused_collection text then refused value
    else (if is_of_tx text then deletion piece (drop (length tx_prefix) text) else bad piece)

unfoldable pub setvar_of : List ℕ → List ℕ → Result Action Bad
setvar_of piece [] = put_of piece []
setvar_of piece (b ∷ text) = if b == EXCLAMATION_MARK then delete_of piece (b ∷ text) text else put_of piece (b ∷ text)

-- ---- ctl

abbrev pub ctl_name : CtlKind → List ℕ
ctl_name kinds.RuleEngine = codes "ruleEngine"
ctl_name kinds.RequestBodyAccess = codes "requestBodyAccess"
ctl_name kinds.ResponseBodyAccess = codes "responseBodyAccess"
ctl_name kinds.RequestBodyProcessor = codes "requestBodyProcessor"
ctl_name kinds.RuleRemoveById = codes "ruleRemoveById"
ctl_name kinds.RuleRemoveByTag = codes "ruleRemoveByTag"
ctl_name kinds.AuditEngine = codes "auditEngine"
ctl_name kinds.AuditLogParts = codes "auditLogParts"
ctl_name kinds.DebugLogLevel = codes "debugLogLevel"
ctl_name kinds.ForceRequestBodyVariable = codes "forceRequestBodyVariable"

abbrev pub all_ctls : List CtlKind
all_ctls =
    kinds.RuleEngine ∷
    kinds.RequestBodyAccess ∷
    kinds.ResponseBodyAccess ∷
    kinds.RequestBodyProcessor ∷
    kinds.RuleRemoveById ∷
    kinds.RuleRemoveByTag ∷
    kinds.AuditEngine ∷
    kinds.AuditLogParts ∷
    kinds.DebugLogLevel ∷
    kinds.ForceRequestBodyVariable ∷
    []

unfoldable pub ctl_named : List ℕ → Option CtlKind
ctl_named word = find (λ k. str_eq_ignore_ascii_case (ctl_name k) word) all_ctls

unfoldable pub is_refused_ctl : List ℕ → Bool
is_refused_ctl name = is_one_of (codes "ruleRemoveByMsg" ∷ codes "ruleRemoveTargetByMsg" ∷ []) name

-- On or Off
unfoldable pub switch_named : List ℕ → Option Bool
switch_named text =
    if str_eq_ignore_ascii_case (codes "On") text then Some true
    else (if str_eq_ignore_ascii_case (codes "Off") text then Some false else None)

-- an identifier, or two joined by - of which the first is not greater
abbrev pub identifier : List ℕ → Option ℕ
identifier text = number_in 1 MAX_ID text

abbrev pub range_of : Option ℕ → Option ℕ → Option (ℕ × ℕ)
range_of (Some first) (Some last) = if nat_le first last then Some (first, last) else None
range_of (Some first) None = None
range_of None last = None

abbrev pub range_from : List ℕ → List ℕ → Option (ℕ × ℕ)
range_from first [] = range_of (identifier first) (identifier first)
range_from first (dash ∷ last) = range_of (identifier first) (identifier last)

unfoldable pub id_range : List ℕ → Option (ℕ × ℕ)
id_range text = range_from (take (to_byte MINUS text) text) (drop (to_byte MINUS text) text)

abbrev pub engine_ctl : List ℕ → Option Engine → Result Action Bad
engine_ctl piece (Some engine) = Ok (actions.Ctl (ctls.Engine engine))
engine_ctl piece None = bad piece

abbrev pub request_body_ctl : List ℕ → Option Bool → Result Action Bad
request_body_ctl piece (Some is_on) = Ok (actions.Ctl (ctls.RequestBody is_on))
request_body_ctl piece None = bad piece

abbrev pub response_body_ctl : List ℕ → Option Bool → Result Action Bad
response_body_ctl piece (Some is_on) = Ok (actions.Ctl (ctls.ResponseBody is_on))
response_body_ctl piece None = bad piece

abbrev pub body_ctl : List ℕ → Option Processor → Result Action Bad
body_ctl piece (Some processor) = Ok (actions.Ctl (ctls.Body processor))
body_ctl piece None = bad piece

abbrev pub remove_by_id_ctl : List ℕ → Option (ℕ × ℕ) → Result Action Bad
remove_by_id_ctl piece (Some ids) = Ok (actions.Ctl (ctls.RemoveById ids.0 ids.1))
remove_by_id_ctl piece None = bad piece

abbrev pub remove_by_tag_ctl : List ℕ → List ℕ → Result Action Bad
remove_by_tag_ctl piece [] = bad piece
remove_by_tag_ctl piece (b ∷ tag) = Ok (actions.Ctl (ctls.RemoveByTag (b ∷ tag)))

abbrev pub of_ctl : List ℕ → List ℕ → CtlKind → Result Action Bad
of_ctl piece value kinds.RuleEngine = engine_ctl piece (engine_named value)
of_ctl piece value kinds.RequestBodyAccess = request_body_ctl piece (switch_named value)
of_ctl piece value kinds.ResponseBodyAccess = response_body_ctl piece (switch_named value)
of_ctl piece value kinds.RequestBodyProcessor = body_ctl piece (processor_named value)
of_ctl piece value kinds.RuleRemoveById = remove_by_id_ctl piece (id_range value)
of_ctl piece value kinds.RuleRemoveByTag = remove_by_tag_ctl piece value
of_ctl piece value kinds.AuditEngine = Ok actions.Nothing
of_ctl piece value kinds.AuditLogParts = Ok actions.Nothing
of_ctl piece value kinds.DebugLogLevel = Ok actions.Nothing
of_ctl piece value kinds.ForceRequestBodyVariable = Ok actions.Nothing

abbrev pub known_ctl : List ℕ → List ℕ → Option CtlKind → Result Action Bad
known_ctl piece value None = bad piece
known_ctl piece value (Some kind) = of_ctl piece value kind

-- a name, =, and a value
abbrev pub set_ctl : List ℕ → List ℕ → List ℕ → Result Action Bad
set_ctl piece name [] = bad piece
set_ctl piece name (equals ∷ value) = known_ctl piece value (ctl_named name)

abbrev pub ctl_parts : List ℕ → List ℕ → List ℕ → List ℕ → Result Action Bad
ctl_parts piece text name rest = if is_refused_ctl name then refused text else set_ctl piece name rest

unfoldable pub ctl_of : List ℕ → List ℕ → Result Action Bad
ctl_of piece text = ctl_parts piece text (take (to_byte EQUALS text) text) (drop (to_byte EQUALS text) text)
