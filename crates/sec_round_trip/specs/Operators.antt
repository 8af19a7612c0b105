-- Operators that are read back from their text.
use Rattle.std.specs.Prelude.{◌≡◌, ℕ, ◌+◌, Bool, true, false, nat_lt, List, [], ◌∷◌}
use Rattle.std.specs.List.{AllByRecursion, list_all, list_any}
use Rattle.sec_ast.specs.PrintOperators.{argument_text}
use Rattle.sec_ast.specs.declared.macros.Part.{Part}
use Rattle.sec_ast.specs.declared.macros.Part.TheVariants as parts
use Rattle.sec_ast.specs.declared.operator.Op.{Op}
use Rattle.sec_ast.specs.declared.operator.OpKind.{OpKind}
use Rattle.sec_ast.specs.declared.operator.OpKind.TheVariants as kinds
use Rattle.sec_text.specs.Quotes.{is_blank}
use Rattle.sec_parts.specs.declared.limits.TheConstants.{MAX_BYTE}
use Rattle.sec_parts.specs.Phrases.{is_parting, is_range}
use Rattle.sec_round_trip.specs.Macros.{IsMacro}
use Rattle.sec_round_trip.specs.Targets.{is_empty}

abbrev pub is_byte : ℕ → Bool
is_byte b = nat_lt b (MAX_BYTE + 1)

-- ---- words: at least one byte, and none that parts words

abbrev pub IsPhrase : List ℕ → Type 0
IsPhrase phrase = (is_empty phrase ≡ false) × (list_all is_byte phrase ≡ true)

abbrev pub IsAddress : List ℕ → Type 0
IsAddress word = (is_empty word ≡ false) × (list_any is_parting word ≡ false)

abbrev pub IsRange : List ℕ → Type 0
IsRange word = IsAddress word × (is_range word ≡ true)

-- ---- what an operator of each kind has

-- of a pattern one part of text, or none
abbrev pub IsLiteral : List Part → Type 0
IsLiteral [] = Unit {0}
IsLiteral (parts.Text text ∷ []) = is_empty text ≡ false
IsLiteral other = ⊥

abbrev pub IsArgument : OpKind → List Part → List (List ℕ) → Type 0
IsArgument kinds.Rx text words = IsLiteral text × (words ≡ [])
IsArgument kinds.RxBytes text words = IsLiteral text × (words ≡ [])
IsArgument kinds.Pm text words = (text ≡ []) × AllByRecursion IsPhrase words
IsArgument kinds.IpMatch text words = (text ≡ []) × AllByRecursion IsAddress words
IsArgument kinds.ValidateByteRange text words = (text ≡ []) × AllByRecursion IsRange words
IsArgument kinds.ValidateUrlEncoding text words = (text ≡ []) × (words ≡ [])
IsArgument kinds.ValidateUtf8Encoding text words = (text ≡ []) × (words ≡ [])
IsArgument kinds.UnconditionalMatch text words = (text ≡ []) × (words ≡ [])
IsArgument kinds.NoMatch text words = (text ≡ []) × (words ≡ [])
IsArgument other text words = IsMacro text × (words ≡ [])

abbrev pub begins_with_blank : List ℕ → Bool
begins_with_blank [] = false
begins_with_blank (b ∷ text) = is_blank b

abbrev pub IsOperator : Op → Type 0
IsOperator op = IsArgument op.kind op.text op.words
    × (begins_with_blank (argument_text op.kind op.text op.words) ≡ false)
