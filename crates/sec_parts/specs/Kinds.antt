-- The actions by their names, and where each may stand.
use Rattle.std.specs.Prelude.{ℕ, Bool, true, false, ◌||◌, codes, find, List, [], ◌∷◌, Option}
use Rattle.std.specs.Str.{str_eq_ignore_ascii_case}
use Rattle.sec_ast.specs.Names.{is_one_of}
use Rattle.sec_parts.specs.declared.kinds.Kind.{Kind}
use Rattle.sec_parts.specs.declared.kinds.Kind.TheVariants as kinds
use Rattle.sec_parts.specs.declared.kinds.Stand.{Stand}
use Rattle.sec_parts.specs.declared.kinds.Stand.TheVariants as stands
use Rattle.sec_parts.specs.Texts.{begins_named}

-- ---- names

abbrev pub kind_name : Kind → List ℕ
kind_name kinds.Id = codes "id"
kind_name kinds.Phase = codes "phase"
kind_name kinds.Msg = codes "msg"
kind_name kinds.Logdata = codes "logdata"
kind_name kinds.Tag = codes "tag"
kind_name kinds.Log = codes "log"
kind_name kinds.Nolog = codes "nolog"
kind_name kinds.Pass = codes "pass"
kind_name kinds.Deny = codes "deny"
kind_name kinds.Drop = codes "drop"
kind_name kinds.Redirect = codes "redirect"
kind_name kinds.Allow = codes "allow"
kind_name kinds.Block = codes "block"
kind_name kinds.Status = codes "status"
kind_name kinds.Skip = codes "skip"
kind_name kinds.SkipAfter = codes "skipAfter"
kind_name kinds.Chain = codes "chain"
kind_name kinds.T = codes "t"
kind_name kinds.Capture = codes "capture"
kind_name kinds.MultiMatch = codes "multiMatch"
kind_name kinds.Setvar = codes "setvar"
kind_name kinds.Ctl = codes "ctl"
kind_name kinds.Auditlog = codes "auditlog"
kind_name kinds.Noauditlog = codes "noauditlog"
kind_name kinds.Severity = codes "severity"
kind_name kinds.Ver = codes "ver"
kind_name kinds.Rev = codes "rev"
kind_name kinds.Maturity = codes "maturity"
kind_name kinds.Accuracy = codes "accuracy"

abbrev pub all_kinds : List Kind
all_kinds =
    kinds.Id ∷
    kinds.Phase ∷
    kinds.Msg ∷
    kinds.Logdata ∷
    kinds.Tag ∷
    kinds.Log ∷
    kinds.Nolog ∷
    kinds.Pass ∷
    kinds.Deny ∷
    kinds.Drop ∷
    kinds.Redirect ∷
    kinds.Allow ∷
    kinds.Block ∷
    kinds.Status ∷
    kinds.Skip ∷
    kinds.SkipAfter ∷
    kinds.Chain ∷
    kinds.T ∷
    kinds.Capture ∷
    kinds.MultiMatch ∷
    kinds.Setvar ∷
    kinds.Ctl ∷
    kinds.Auditlog ∷
    kinds.Noauditlog ∷
    kinds.Severity ∷
    kinds.Ver ∷
    kinds.Rev ∷
    kinds.Maturity ∷
    kinds.Accuracy ∷
    []

-- the kind of a name, without regard to case
unfoldable pub kind_named : List ℕ → Option Kind
kind_named word = find (λ k. str_eq_ignore_ascii_case (kind_name k) word) all_kinds

-- ---- names that are refused

abbrev pub refused_actions : List (List ℕ)
refused_actions =
    codes "exec" ∷
    codes "proxy" ∷
    codes "pause" ∷
    codes "initcol" ∷
    codes "expirevar" ∷
    codes "deprecatevar" ∷
    codes "setenv" ∷
    codes "setuid" ∷
    codes "setsid" ∷
    codes "setrsc" ∷
    codes "xmlns" ∷
    codes "prepend" ∷
    codes "append" ∷
    []

-- those, and each name that begins with sanitise
unfoldable pub is_refused_action : List ℕ → Bool
is_refused_action name = is_one_of refused_actions name || begins_named (codes "sanitise") name

abbrev pub refused_transforms : List (List ℕ)
refused_transforms =
    codes "urlEncode" ∷
    codes "removeComments" ∷
    codes "base64DecodeExt" ∷
    codes "sqlHexDecode" ∷
    codes "parityEven7bit" ∷
    codes "parityOdd7bit" ∷
    codes "parityZero7bit" ∷
    []

unfoldable pub is_refused_transform : List ℕ → Bool
is_refused_transform name = is_one_of refused_transforms name

-- ---- where an action may stand: in the first link of a rule, in a later one, in defaults

abbrev pub is_first : Stand → Bool
is_first stands.First = true
is_first stands.Later = false
is_first stands.Defaults = false

abbrev pub is_link : Stand → Bool
is_link stands.First = true
is_link stands.Later = true
is_link stands.Defaults = false

abbrev pub is_not_later : Stand → Bool
is_not_later stands.First = true
is_not_later stands.Later = false
is_not_later stands.Defaults = true

abbrev pub may_stand : Kind → Stand → Bool
may_stand kinds.Id stand = is_first stand
may_stand kinds.Phase stand = is_not_later stand
may_stand kinds.Msg stand = is_first stand
may_stand kinds.Logdata stand = is_first stand
may_stand kinds.Tag stand = is_first stand
may_stand kinds.Log stand = true
may_stand kinds.Nolog stand = true
may_stand kinds.Pass stand = is_not_later stand
may_stand kinds.Deny stand = is_not_later stand
may_stand kinds.Drop stand = is_not_later stand
may_stand kinds.Redirect stand = is_not_later stand
may_stand kinds.Allow stand = is_first stand
may_stand kinds.Block stand = is_first stand
may_stand kinds.Status stand = is_not_later stand
may_stand kinds.Skip stand = is_first stand
may_stand kinds.SkipAfter stand = is_first stand
may_stand kinds.Chain stand = is_link stand
may_stand kinds.T stand = true
may_stand kinds.Capture stand = is_link stand
may_stand kinds.MultiMatch stand = is_link stand
may_stand kinds.Setvar stand = is_link stand
may_stand kinds.Ctl stand = is_link stand
may_stand kinds.Auditlog stand = true
may_stand kinds.Noauditlog stand = true
may_stand kinds.Severity stand = is_link stand
may_stand kinds.Ver stand = is_link stand
may_stand kinds.Rev stand = is_link stand
may_stand kinds.Maturity stand = is_link stand
may_stand kinds.Accuracy stand = is_link stand
