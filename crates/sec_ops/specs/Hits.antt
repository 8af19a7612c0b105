-- What an operator finds in a value: nothing, or the texts of its groups.
use Rattle.std.specs.Prelude.{◌≡◌, ℕ, Bool, true, false, not, cond, List, [], ◌∷◌, map, Option, Some, None, is_none, is_some, option_and_then, nat_eq}
use Rattle.std.specs.List.{starts_with, ends_with}
use Rattle.std.specs.Cmp.Lexicographic.{pointwise}
use Rattle.std.specs.Option.{option_map}
use Rattle.std.specs.Ordering.{int_cmp, is_eq, is_ge, is_gt, is_le, is_lt}
use Rattle.std.specs.Str.{is_utf8}
use Rattle.regex.specs.Bytes.{group_count, regex_pattern}
use Rattle.regex.specs.Patterns.{Re, find}
use Rattle.regex_syntax.specs.Grammar.{Names}
use Rattle.phrase_set.specs.Phrases.{first_end, place_of}
use Rattle.pattern_text.specs.Wording.{worded}
use Rattle.ip_set.specs.Membership.{is_in, is_member}
use Rattle.sec_ast.specs.declared.operator.OpKind as kinds
use Rattle.sec_ast.specs.declared.operator.OpKind.TheVariants.{Rx, RxBytes, Pm, Streq, Contains, BeginsWith, EndsWith, Within, Eq, Ge, Gt, Le, Lt, IpMatch, ValidateByteRange, ValidateUrlEncoding, ValidateUtf8Encoding, UnconditionalMatch}
use Rattle.sec_ast.specs.declared.operator.Op as ops
use Rattle.sec_ast.specs.declared.macros.Part as parts
use Rattle.sec_ast.specs.declared.macros.Part.TheVariants.{Text}
use Rattle.sec_ops.specs.declared.built.Test as tests
use Rattle.sec_ops.specs.declared.built.Test.TheVariants.{Pattern, Phrases, Addresses, Ranges, Plain}
use Rattle.sec_ops.specs.declared.built.Hit as answers
use Rattle.sec_ops.specs.declared.built.Hit.TheVariants.{No, Yes}
use Rattle.sec_ops.specs.Bytes.{IsBytes}
use Rattle.sec_ops.specs.Escapes.{has_bad_escape}
use Rattle.sec_ops.specs.Number.{number}
use Rattle.sec_ops.specs.Pattern.{between, reading_of, spans_of, hit_in, texts_in}
use Rattle.sec_ops.specs.Phrases.{folded}
use Rattle.sec_ops.specs.Ranges.{has_other, range_of}

-- the texts of the groups, where it holds
abbrev pub Groups : Type 0
Groups = List (Option (List ℕ))

abbrev pub groups_of : answers.Hit → Option Groups
groups_of No = None
groups_of (Yes groups) = Some groups

-- it holds without groups
abbrev pub when : Bool → Option Groups
when test = cond test (Some []) None

-- the pattern of an operator: the text of its one part
abbrev pub source_of : List parts.Part → List ℕ
source_of (Text text ∷ []) = text
source_of other = []

-- what the grammar reads in a text of characters
abbrev pub source_reading : List ℕ → Option (Re × Names)
source_reading source = cond (is_utf8 source) (reading_of source) None

-- what the grammar reads in the wording of a pattern of PCRE
abbrev pub bytes_reading : List ℕ → Option (Re × Names)
bytes_reading pattern = option_and_then source_reading (worded pattern)

-- the pattern of an operator of this kind has no reading; rx and rxBytes alone have one
unfoldable pub is_unread_op : kinds.OpKind → List ℕ → Bool
is_unread_op Rx source = is_none (source_reading source)
is_unread_op RxBytes source = is_none (bytes_reading source)
is_unread_op other source = false

-- the groups of the first match of a pattern
abbrev pub pattern_hit : List ℕ → List ℕ → Option Groups
pattern_hit source value = option_map (texts_in value) (option_and_then (hit_in value) (source_reading source))

-- and of a pattern of PCRE
abbrev pub bytes_hit : List ℕ → List ℕ → Option Groups
bytes_hit pattern value = option_map (texts_in value) (option_and_then (hit_in value) (bytes_reading pattern))

-- the phrase that ends first, the longest among those, without regard to case
abbrev pub phrase_hit : List (List ℕ) → List ℕ → Option Groups
phrase_hit phrases value = option_map (λ span. Some (between value span) ∷ []) (first_end phrases (folded value))

-- the first text has the second in it
abbrev pub has : List ℕ → List ℕ → Bool
has text needle = is_some (place_of text needle)

-- the operators that are nothing but a test of argument and value
unfoldable pub plain_test : kinds.OpKind → List ℕ → List ℕ → Bool
plain_test Streq argument value = pointwise nat_eq value argument
plain_test Contains argument value = has value argument
plain_test BeginsWith argument value = starts_with nat_eq value argument
plain_test EndsWith argument value = ends_with nat_eq value argument
plain_test Within argument value = has argument value
plain_test Eq argument value = is_eq (int_cmp (number value) (number argument))
plain_test Ge argument value = is_ge (int_cmp (number value) (number argument))
plain_test Gt argument value = is_gt (int_cmp (number value) (number argument))
plain_test Le argument value = is_le (int_cmp (number value) (number argument))
plain_test Lt argument value = is_lt (int_cmp (number value) (number argument))
plain_test ValidateUrlEncoding argument value = has_bad_escape value
plain_test ValidateUtf8Encoding argument value = not (is_utf8 value)
plain_test UnconditionalMatch argument value = true
plain_test other argument value = false

-- what an operator finds, by its kind, pattern and words
unfoldable pub hit_of : kinds.OpKind → List ℕ → List (List ℕ) → List ℕ → List ℕ → Option Groups
hit_of Rx source words argument value = pattern_hit source value
hit_of RxBytes source words argument value = bytes_hit source value
hit_of Pm source words argument value = phrase_hit (map folded words) value
hit_of IpMatch source words argument value = when (is_in words value)
hit_of ValidateByteRange source words argument value = when (has_other (map range_of words) value)
hit_of kind source words argument value = when (plain_test kind argument value)

abbrev pub hit : ops.Op → List ℕ → List ℕ → Option Groups
hit op argument value = hit_of op.kind (source_of op.text) op.words argument value

-- what a built test finds
abbrev pub test_hit : tests.Test → List ℕ → List ℕ → Option Groups
test_hit (Pattern pattern) argument value =
    option_map (texts_in value) (option_map (spans_of (group_count pattern.regex)) (find (regex_pattern pattern.regex) value 0))
test_hit (Phrases phrases) argument value = phrase_hit phrases value
test_hit (Addresses set) argument value = when (is_member set value)
test_hit (Ranges ranges) argument value = when (has_other ranges value)
test_hit (Plain kind) argument value = when (plain_test kind argument value)

-- it finds in each text of bytes what the operator finds
abbrev pub IsBuiltFrom : tests.Test → ops.Op → Type 0
IsBuiltFrom test op = (argument value : List ℕ) → IsBytes value → test_hit test argument value ≡ hit op argument value
