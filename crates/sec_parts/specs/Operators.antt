-- The operator of a rule.
use Rattle.std.specs.Prelude.{ℕ, Bool, true, false, codes, List, [], ◌∷◌, take, drop, Option, Some, None, Result, Ok, if◌then◌else◌, ◌==◌}
use Rattle.std.specs.List.{position_or_len}
use Rattle.sec_ast.specs.Names.{is_one_of}
use Rattle.sec_ast.specs.Operator.{operator_named}
use Rattle.sec_ast.specs.declared.OpKind.{OpKind}
use Rattle.sec_ast.specs.declared.OpKind.TheVariants as kinds
use Rattle.sec_ast.specs.declared.Part.{Part}
use Rattle.sec_ast.specs.declared.Part.TheVariants as parts
use Rattle.sec_text.specs.Quotes.{is_blank}
use Rattle.sec_text.specs.declared.characters.TheConstants.{AT_SIGN, EXCLAMATION_MARK}
use Rattle.sec_parts.specs.declared.faults.Bad.{Bad}
use Rattle.sec_parts.specs.declared.operators.Operator.{Operator}
use Rattle.sec_parts.specs.Results.{◌>>=◌, bad, refused}
use Rattle.sec_parts.specs.Texts.{skip_blanks}
use Rattle.sec_parts.specs.Macros.{macro_of}
use Rattle.sec_parts.specs.Phrases.{addresses_of, phrases_of, ranges_of}

-- ---- names of operators that are left out, and of those that read their words from a file

abbrev pub refused_operators : List (List ℕ)
refused_operators =
    codes "detectSQLi" ∷
    codes "detectXSS" ∷
    codes "geoLookup" ∷
    codes "rbl" ∷
    codes "inspectFile" ∷
    codes "fuzzyHash" ∷
    codes "verifyCC" ∷
    codes "verifyCPF" ∷
    codes "verifySSN" ∷
    codes "rsub" ∷
    codes "restpath" ∷
    codes "validateSchema" ∷
    codes "validateNid" ∷
    codes "containsWord" ∷
    codes "strmatch" ∷
    []

unfoldable pub is_refused_operator : List ℕ → Bool
is_refused_operator name = is_one_of refused_operators name

unfoldable pub reads_phrase_file : List ℕ → Bool
reads_phrase_file name = is_one_of (codes "pmFromFile" ∷ codes "pmf" ∷ []) name

unfoldable pub reads_address_file : List ℕ → Bool
reads_address_file name = is_one_of (codes "ipMatchFromFile" ∷ codes "ipMatchF" ∷ []) name

-- ---- what an argument is to each kind

abbrev pub literal : List ℕ → List Part
literal [] = []
literal (b ∷ text) = parts.Text (b ∷ text) ∷ []

abbrev pub with_text : Bool → OpKind → List Part → Operator
with_text negated kind text =
    record { negated = negated; op = record { kind = kind; text = text; words = [] }; file = None }

abbrev pub with_words : Bool → OpKind → List (List ℕ) → Operator
with_words negated kind words =
    record { negated = negated; op = record { kind = kind; text = []; words = words }; file = None }

abbrev pub from_file : Bool → OpKind → List ℕ → Operator
from_file negated kind name =
    record { negated = negated; op = record { kind = kind; text = []; words = [] }; file = Some name }

abbrev pub without_argument : Bool → OpKind → List ℕ → Result Operator Bad
without_argument negated kind [] = Ok (with_text negated kind [])
without_argument negated kind (b ∷ argument) = bad (b ∷ argument)

abbrev pub expanded : Bool → OpKind → List ℕ → Result Operator Bad
expanded negated kind argument = macro_of argument >>= λ text. Ok (with_text negated kind text)

abbrev pub with_argument : Bool → List ℕ → OpKind → Result Operator Bad
with_argument negated argument kinds.Rx = Ok (with_text negated kinds.Rx (literal argument))
with_argument negated argument kinds.RxBytes = Ok (with_text negated kinds.RxBytes (literal argument))
with_argument negated argument kinds.Pm = phrases_of argument >>= λ words. Ok (with_words negated kinds.Pm words)
with_argument negated argument kinds.Streq = expanded negated kinds.Streq argument
with_argument negated argument kinds.Contains = expanded negated kinds.Contains argument
with_argument negated argument kinds.BeginsWith = expanded negated kinds.BeginsWith argument
with_argument negated argument kinds.EndsWith = expanded negated kinds.EndsWith argument
with_argument negated argument kinds.Within = expanded negated kinds.Within argument
with_argument negated argument kinds.Eq = expanded negated kinds.Eq argument
with_argument negated argument kinds.Ge = expanded negated kinds.Ge argument
with_argument negated argument kinds.Gt = expanded negated kinds.Gt argument
with_argument negated argument kinds.Le = expanded negated kinds.Le argument
with_argument negated argument kinds.Lt = expanded negated kinds.Lt argument
with_argument negated argument kinds.IpMatch =
    addresses_of argument >>= λ words. Ok (with_words negated kinds.IpMatch words)
with_argument negated argument kinds.ValidateByteRange =
    ranges_of argument >>= λ words. Ok (with_words negated kinds.ValidateByteRange words)
with_argument negated argument kinds.ValidateUrlEncoding = without_argument negated kinds.ValidateUrlEncoding argument
with_argument negated argument kinds.ValidateUtf8Encoding = without_argument negated kinds.ValidateUtf8Encoding argument
with_argument negated argument kinds.UnconditionalMatch = without_argument negated kinds.UnconditionalMatch argument
with_argument negated argument kinds.NoMatch = without_argument negated kinds.NoMatch argument

-- ---- the word of an operator

abbrev pub of_kind : Bool → List ℕ → List ℕ → Option OpKind → Result Operator Bad
of_kind negated name argument None = bad (AT_SIGN ∷ name)
of_kind negated name argument (Some kind) = with_argument negated argument kind

-- a name, behind @, and its argument
abbrev pub named : Bool → List ℕ → List ℕ → Result Operator Bad
named negated name argument =
    if is_refused_operator name then refused (AT_SIGN ∷ name)
    else (if reads_phrase_file name then Ok (from_file negated kinds.Pm argument)
    else (if reads_address_file name then Ok (from_file negated kinds.IpMatch argument)
    else of_kind negated name argument (operator_named name)))

-- a name runs to the next blank, and behind blanks comes the argument
abbrev pub behind_at : Bool → List ℕ → Result Operator Bad
behind_at negated text =
    named negated (take (position_or_len is_blank text) text) (skip_blanks (drop (position_or_len is_blank text) text))

-- without @ it is the argument of rx
abbrev pub stated : Bool → List ℕ → Result Operator Bad
stated negated [] = with_argument negated [] kinds.Rx
stated negated (b ∷ text) = if b == AT_SIGN then behind_at negated text else with_argument negated (b ∷ text) kinds.Rx

abbrev pub unless_negated : List ℕ → Result Operator Bad
unless_negated [] = stated false []
unless_negated (b ∷ text) = if b == EXCLAMATION_MARK then stated true (skip_blanks text) else stated false (b ∷ text)

unfoldable pub operator_of : List ℕ → Result Operator Bad
operator_of word = unless_negated (skip_blanks word)
