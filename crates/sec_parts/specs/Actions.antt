-- What the actions of a list say.
use Rattle.std.specs.Prelude.{ℕ, Bool, true, false, codes, List, [], ◌∷◌, Option, Some, None, Result, Ok, if◌then◌else◌}
use Rattle.std.specs.Str.{str_eq_ignore_ascii_case}
use Rattle.sec_ast.specs.Transform.{transform_named}
use Rattle.sec_ast.specs.declared.Disrupt.TheVariants as disrupts
use Rattle.sec_ast.specs.declared.Transform.{Transform}
use Rattle.sec_parts.specs.declared.faults.Bad.{Bad}
use Rattle.sec_parts.specs.declared.pieces.Piece.{Piece}
use Rattle.sec_parts.specs.declared.kinds.Kind.{Kind}
use Rattle.sec_parts.specs.declared.kinds.Kind.TheVariants as kinds
use Rattle.sec_parts.specs.declared.kinds.Stand.{Stand}
use Rattle.sec_parts.specs.declared.kinds.Stand.TheVariants as stands
use Rattle.sec_parts.specs.declared.actions.Action.{Action}
use Rattle.sec_parts.specs.declared.actions.Action.TheVariants as actions
use Rattle.sec_parts.specs.Results.{◌>>=◌, bad, refused}
use Rattle.sec_parts.specs.Numbers.{number_in}
use Rattle.sec_parts.specs.Macros.{macro_of}
use Rattle.sec_parts.specs.Kinds.{is_refused_action, is_refused_transform, kind_named, may_stand}
use Rattle.sec_parts.specs.Changes.{ctl_of, identifier, setvar_of}
use Rattle.sec_parts.specs.declared.limits.TheConstants.{LOGGING_PHASE, MAX_PHASE, MAX_SKIP, MAX_STATUS, MIN_STATUS, REQUEST_PHASE, RESPONSE_PHASE}

-- ---- values; piece: the whole piece, which is the word of a fault

-- this word without regard to case
unfoldable pub is_word : List ℕ → List ℕ → Bool
is_word name text = str_eq_ignore_ascii_case text name

abbrev pub or_bad : List ℕ → Option ℕ → (ℕ → Action) → Result Action Bad
or_bad piece (Some n) make = Ok (make n)
or_bad piece None make = bad piece

unfoldable pub phase_in : List ℕ → Option ℕ
phase_in text =
    if is_word (codes "request") text then Some REQUEST_PHASE
    else (if is_word (codes "response") text then Some RESPONSE_PHASE
    else (if is_word (codes "logging") text then Some LOGGING_PHASE
    else number_in 1 MAX_PHASE text))

abbrev pub id_of : List ℕ → List ℕ → Result Action Bad
id_of piece text = or_bad piece (identifier text) (λ n. actions.Id n)

abbrev pub phase_of : List ℕ → List ℕ → Result Action Bad
phase_of piece text = or_bad piece (phase_in text) (λ n. actions.Phase n)

abbrev pub status_of : List ℕ → List ℕ → Result Action Bad
status_of piece text = or_bad piece (number_in MIN_STATUS MAX_STATUS text) (λ n. actions.Status n)

abbrev pub skip_of : List ℕ → List ℕ → Result Action Bad
skip_of piece text = or_bad piece (number_in 1 MAX_SKIP text) (λ n. actions.Skip n)

abbrev pub msg_of : List ℕ → Result Action Bad
msg_of text = macro_of text >>= λ parts. Ok (actions.Msg parts)

abbrev pub logdata_of : List ℕ → Result Action Bad
logdata_of text = macro_of text >>= λ parts. Ok (actions.Logdata parts)

abbrev pub redirect_of : List ℕ → List ℕ → Result Action Bad
redirect_of piece [] = bad piece
redirect_of piece (b ∷ text) = macro_of (b ∷ text) >>= λ location. Ok (actions.Disrupt (disrupts.Redirect location))

abbrev pub label_of : List ℕ → List ℕ → Result Action Bad
label_of piece [] = bad piece
label_of piece (b ∷ text) = Ok (actions.SkipAfter (b ∷ text))

abbrev pub allow_of : List ℕ → List ℕ → Result Action Bad
allow_of piece text =
    if is_word (codes "phase") text then Ok (actions.Disrupt disrupts.AllowPhase)
    else (if is_word (codes "request") text then Ok (actions.Disrupt disrupts.AllowRequest) else bad piece)

-- in defaults only t:none stands, without effect
abbrev pub transform_in : List ℕ → Option Transform → Result Action Bad
transform_in piece (Some transform) = Ok (actions.Transform transform)
transform_in piece None = bad piece

abbrev pub transform_of : Bool → List ℕ → List ℕ → Result Action Bad
transform_of in_defaults piece text =
    if is_word (codes "none") text then Ok actions.NoTransforms
    else (if in_defaults then bad piece
    else (if is_refused_transform text then refused text
    else transform_in piece (transform_named text)))

-- ---- an action of each kind, without a value and with one

abbrev pub alone : List ℕ → Kind → Result Action Bad
alone piece kinds.Log = Ok (actions.Log true)
alone piece kinds.Nolog = Ok (actions.Log false)
alone piece kinds.Pass = Ok (actions.Disrupt disrupts.Pass)
alone piece kinds.Deny = Ok (actions.Disrupt disrupts.Deny)
alone piece kinds.Drop = Ok (actions.Disrupt disrupts.Drop)
alone piece kinds.Allow = Ok (actions.Disrupt disrupts.Allow)
alone piece kinds.Block = Ok actions.Block
alone piece kinds.Chain = Ok actions.Chain
alone piece kinds.Capture = Ok actions.Capture
alone piece kinds.MultiMatch = Ok actions.MultiMatch
alone piece kinds.Auditlog = Ok actions.Nothing
alone piece kinds.Noauditlog = Ok actions.Nothing
alone piece kinds.Severity = Ok actions.Nothing
alone piece kinds.Ver = Ok actions.Nothing
alone piece kinds.Rev = Ok actions.Nothing
alone piece kinds.Maturity = Ok actions.Nothing
alone piece kinds.Accuracy = Ok actions.Nothing
alone piece other = bad piece

abbrev pub is_defaults : Stand → Bool
is_defaults stands.First = false
is_defaults stands.Later = false
is_defaults stands.Defaults = true

abbrev pub with_value : Stand → List ℕ → List ℕ → Kind → Result Action Bad
with_value stand piece text kinds.Id = id_of piece text
with_value stand piece text kinds.Phase = phase_of piece text
with_value stand piece text kinds.Msg = msg_of text
with_value stand piece text kinds.Logdata = logdata_of text
with_value stand piece text kinds.Tag = Ok (actions.Tag text)
with_value stand piece text kinds.Redirect = redirect_of piece text
with_value stand piece text kinds.Allow = allow_of piece text
with_value stand piece text kinds.Status = status_of piece text
with_value stand piece text kinds.Skip = skip_of piece text
with_value stand piece text kinds.SkipAfter = label_of piece text
with_value stand piece text kinds.T = transform_of (is_defaults stand) piece text
with_value stand piece text kinds.Setvar = setvar_of piece text
with_value stand piece text kinds.Ctl = ctl_of piece text
with_value stand piece text kinds.Severity = Ok actions.Nothing
with_value stand piece text kinds.Ver = Ok actions.Nothing
with_value stand piece text kinds.Rev = Ok actions.Nothing
with_value stand piece text kinds.Maturity = Ok actions.Nothing
with_value stand piece text kinds.Accuracy = Ok actions.Nothing
with_value stand piece text other = bad piece

abbrev pub said : Stand → List ℕ → Option (List ℕ) → Kind → Result Action Bad
said stand piece None kind = alone piece kind
said stand piece (Some text) kind = with_value stand piece text kind

-- ---- one piece: its name, where it may stand, and its value

abbrev pub of_kind : Stand → Piece → Option Kind → Result Action Bad
of_kind stand piece None = bad piece.text
of_kind stand piece (Some kind) =
    if may_stand kind stand then said stand piece.text piece.value kind else bad piece.text

unfoldable pub action_of : Stand → Piece → Result Action Bad
action_of stand piece =
    if is_refused_action piece.name then refused piece.name else of_kind stand piece (kind_named piece.name)
