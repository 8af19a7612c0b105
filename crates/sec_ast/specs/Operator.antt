-- The names of operators.
use Rattle.std.specs.Prelude.{ℕ, List, [], ◌∷◌, codes, find, Option}
use Rattle.std.specs.Str.{str_eq_ignore_ascii_case}
use Rattle.sec_ast.specs.declared.operator.OpKind.{OpKind}
use Rattle.sec_ast.specs.declared.operator.OpKind.TheVariants as kinds

abbrev pub operator_name : OpKind → List ℕ
operator_name kinds.Rx = codes "rx"
operator_name kinds.RxBytes = codes "rxBytes"
operator_name kinds.Pm = codes "pm"
operator_name kinds.Streq = codes "streq"
operator_name kinds.Contains = codes "contains"
operator_name kinds.BeginsWith = codes "beginsWith"
operator_name kinds.EndsWith = codes "endsWith"
operator_name kinds.Within = codes "within"
operator_name kinds.Eq = codes "eq"
operator_name kinds.Ge = codes "ge"
operator_name kinds.Gt = codes "gt"
operator_name kinds.Le = codes "le"
operator_name kinds.Lt = codes "lt"
operator_name kinds.IpMatch = codes "ipMatch"
operator_name kinds.ValidateByteRange = codes "validateByteRange"
operator_name kinds.ValidateUrlEncoding = codes "validateUrlEncoding"
operator_name kinds.ValidateUtf8Encoding = codes "validateUtf8Encoding"
operator_name kinds.UnconditionalMatch = codes "unconditionalMatch"
operator_name kinds.NoMatch = codes "noMatch"

abbrev pub all_kinds : List OpKind
all_kinds =
    kinds.Rx ∷
    kinds.RxBytes ∷
    kinds.Pm ∷
    kinds.Streq ∷
    kinds.Contains ∷
    kinds.BeginsWith ∷
    kinds.EndsWith ∷
    kinds.Within ∷
    kinds.Eq ∷
    kinds.Ge ∷
    kinds.Gt ∷
    kinds.Le ∷
    kinds.Lt ∷
    kinds.IpMatch ∷
    kinds.ValidateByteRange ∷
    kinds.ValidateUrlEncoding ∷
    kinds.ValidateUtf8Encoding ∷
    kinds.UnconditionalMatch ∷
    kinds.NoMatch ∷
    []

-- the kind of a name, without regard to case
unfoldable pub operator_named : List ℕ → Option OpKind
operator_named word = find (λ k. str_eq_ignore_ascii_case (operator_name k) word) all_kinds
