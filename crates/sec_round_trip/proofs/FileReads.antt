-- The words that an operator takes from a file, and its addresses.
use Rattle.std.proofs.Common.{◌≡◌, ℕ, ◌+◌, ◌-◌, Bool, true, false, cond, List, [], ◌∷◌, length, drop, Option, Some, None, Result, Ok, Err, refl, sym}
use Rattle.std.specs.Prelude.{if◌then◌else◌, not, nat_lt}
use Rattle.std.specs.List.{AllByRecursion, list_all, onto_first, prefix_len, slice_split, suffix_len}
use Rattle.std.proofs.lemmas.Bool.{and_from, and_parts, false≢true}
use Rattle.sec_ast.specs.declared.macros.Part.{Part}
use Rattle.sec_ast.specs.declared.operator.OpKind.{OpKind}
use Rattle.sec_ast.specs.declared.operator.OpKind.TheVariants as kinds
use Rattle.sec_text.specs.Lines.{is_line_feed, is_passed, is_trimmed, trim}
use Rattle.sec_parts.specs.declared.faults.Bad.{Bad}
use Rattle.sec_parts.specs.declared.operators.Operator.{Operator}
use Rattle.sec_parts.specs.Operators.{operator_of}
use Rattle.sec_parts.specs.Results.{◌>>=◌}
use Rattle.sec_read.specs.declared.texts.Text.{Text}
use Rattle.sec_read.specs.Faults.{placed}
use Rattle.sec_read.specs.FileWords.{Named, admitted, words_among, words_in}
use Rattle.sec_read.specs.Names.{beside, has_wildcard}
use Rattle.sec_read.specs.Operators.{checked, checked_at, filled, first_bad, is_address_word, is_of_addresses, operator_at, unless_bad, with_words}
use Rattle.sec_round_trip.specs.Operators.{IsPhrase}
use Rattle.sec_round_trip.specs.Printable.{HoldBytes}
use Rattle.sec_round_trip.specs.Targets.{is_empty}
use Rattle.sec_parts.proofs.Given.{Given, given_bind, given_if}
use Rattle.sec_round_trip.proofs.OperatorReads.{FileKind, GoodArgument, IsGood, IsStated, StatedArgument}
use Rattle.sec_round_trip.proofs.WordReads.{AreBytes, bytes_drop, bytes_take}

pub given_placed : {A : Type 0} (P : A → Type 0) (file : List ℕ) (line : ℕ) (r : Result A Bad) → Given P r → Given P (placed file line r)
given_placed P file line (Ok x) h = h
given_placed P file line (Err e) h = tt

-- ---- the words of a text

parts_bytes : (text : List ℕ) → AreBytes text → AllByRecursion AreBytes (slice_split is_line_feed text)
parts_bytes [] h = (refl, tt)
parts_bytes (b ∷ text) h =
    let both = and_parts (nat_lt b 256) (list_all (λ c. nat_lt c 256) text) h in
    split_if (is_line_feed b) b (slice_split is_line_feed text) both.0 (parts_bytes text both.1)
  where
    onto_bytes : (b : ℕ) (parts : List (List ℕ)) → nat_lt b 256 ≡ true → AllByRecursion AreBytes parts → AllByRecursion AreBytes (onto_first b parts)
    onto_bytes b [] small all = (and_from (nat_lt b 256) true small refl, tt)
    onto_bytes b (part ∷ parts) small all = (and_from (nat_lt b 256) (list_all (λ c. nat_lt c 256) part) small all.0, all.1)

    split_if : (p : Bool) (b : ℕ) (parts : List (List ℕ)) → nat_lt b 256 ≡ true → AllByRecursion AreBytes parts → AllByRecursion AreBytes (cond p ([] ∷ parts) (onto_first b parts))
    split_if true b parts small all = (refl, all)
    split_if false b parts small all = onto_bytes b parts small all

trim_bytes : (text : List ℕ) → AreBytes text → AreBytes (trim text)
trim_bytes text h =
    let rest : List ℕ = drop (prefix_len is_trimmed text) text in
    bytes_take (length rest - suffix_len is_trimmed rest) rest (bytes_drop (prefix_len is_trimmed text) text h)

among_phrases : (lines : List (List ℕ)) → AllByRecursion AreBytes lines → AllByRecursion IsPhrase (words_among lines)
among_phrases [] all = tt
among_phrases (line ∷ lines) all = kept_if (not (is_passed (trim line))) (trim line) (words_among lines) refl (trim_bytes line all.0) (among_phrases lines all.1)
  where
    some_word : (word : List ℕ) → not (is_passed word) ≡ true → is_empty word ≡ false
    some_word [] h = absurd (false≢true h)
    some_word (b ∷ word) h = refl

    kept_if : (p : Bool) (word : List ℕ) (words : List (List ℕ)) → not (is_passed word) ≡ p → AreBytes word → AllByRecursion IsPhrase words → AllByRecursion IsPhrase (cond p (word ∷ words) words)
    kept_if true word words is bytes all = ((some_word word is, bytes), all)
    kept_if false word words is bytes all = all

-- ---- texts that are named

pub admitted_gives : (file : List ℕ) (line : ℕ) (word : List ℕ) (o : Option (List ℕ)) (total : ℕ) → ((content : List ℕ) → o ≡ Some content → AreBytes content) → Given (λ (text : Text). AreBytes text.content) (admitted file line word o total)
admitted_gives file line word None total bytes = tt
admitted_gives file line word (Some content) total bytes =
    given_if (λ (text : Text). AreBytes text.content) (nat_lt 4194304 (length content)) _ _ (λ h. tt)
    (λ h. given_if (λ (text : Text). AreBytes text.content) (nat_lt 16777216 (total + length content)) _ _ (λ i. tt) (λ i. bytes content refl))

abbrev IsFilled : Operator × ℕ → Type 0
IsFilled whole = StatedArgument whole.0.op.kind whole.0.op.text whole.0.op.words

taken_from : (kind : OpKind) (text : List Part) (words given : List (List ℕ)) (name : List ℕ) → FileKind (Some name) kind → StatedArgument kind text words → AllByRecursion IsPhrase given → StatedArgument kind text given
taken_from kinds.Pm text words given name kind is are = (is.0, are)
taken_from kinds.IpMatch text words given name kind is are = is
taken_from kinds.Rx text words given name kind is are = absurd kind
taken_from kinds.RxBytes text words given name kind is are = absurd kind
taken_from kinds.Streq text words given name kind is are = absurd kind
taken_from kinds.Contains text words given name kind is are = absurd kind
taken_from kinds.BeginsWith text words given name kind is are = absurd kind
taken_from kinds.EndsWith text words given name kind is are = absurd kind
taken_from kinds.Within text words given name kind is are = absurd kind
taken_from kinds.Eq text words given name kind is are = absurd kind
taken_from kinds.Ge text words given name kind is are = absurd kind
taken_from kinds.Gt text words given name kind is are = absurd kind
taken_from kinds.Le text words given name kind is are = absurd kind
taken_from kinds.Lt text words given name kind is are = absurd kind
taken_from kinds.ValidateByteRange text words given name kind is are = absurd kind
taken_from kinds.ValidateUrlEncoding text words given name kind is are = absurd kind
taken_from kinds.ValidateUtf8Encoding text words given name kind is are = absurd kind
taken_from kinds.UnconditionalMatch text words given name kind is are = absurd kind
taken_from kinds.NoMatch text words given name kind is are = absurd kind

filled_gives : (files : Named) (file : List ℕ) (line : ℕ) (o : Option (List ℕ)) (operator : Operator) (total : ℕ) → HoldBytes files → FileKind o operator.op.kind → StatedArgument operator.op.kind operator.op.text operator.op.words
    → Given IsFilled (filled files file line o operator total)
filled_gives files file line None operator total bytes kind is = is
filled_gives files file line (Some word) operator total bytes kind is =
    given_if IsFilled (has_wildcard word) _ _ (λ h. tt)
    (λ h. given_bind (λ (text : Text). AreBytes text.content) IsFilled (admitted file line word (files (beside file word)) total) (λ text. Ok (with_words operator (words_in text.content), text.total))
    (admitted_gives file line word (files (beside file word)) total (bytes (beside file word)))
    (λ text all. taken_from operator.op.kind operator.op.text operator.op.words (words_in text.content) word kind is (among_phrases (slice_split is_line_feed text.content) (parts_bytes text.content all))))

-- ---- addresses that are some

find_if : (p : Bool) (word : List ℕ) (rest : Option (List ℕ)) → cond p (Some word) rest ≡ None → (p ≡ false) × (rest ≡ None)
find_if true word rest h = absurd cc
find_if false word rest h = (refl, h)

no_bad : (words : List (List ℕ)) → first_bad words ≡ None → AllByRecursion (λ word. is_address_word word ≡ true) words
no_bad [] h = tt
no_bad (word ∷ words) h =
    let parts = find_if (not (is_address_word word)) word (first_bad words) h in
    (not_not (is_address_word word) parts.0, no_bad words parts.1)
  where
    not_not : (p : Bool) → not p ≡ false → p ≡ true
    not_not true h = refl
    not_not false h = sym h

good_if : (kind : OpKind) (text : List Part) (words : List (List ℕ)) → StatedArgument kind text words → (if is_of_addresses kind then first_bad words else None) ≡ None → GoodArgument kind text words
good_if kinds.IpMatch text words is none = (is, no_bad words none)
good_if kinds.Rx text words is none = is
good_if kinds.RxBytes text words is none = is
good_if kinds.Pm text words is none = is
good_if kinds.Streq text words is none = is
good_if kinds.Contains text words is none = is
good_if kinds.BeginsWith text words is none = is
good_if kinds.EndsWith text words is none = is
good_if kinds.Within text words is none = is
good_if kinds.Eq text words is none = is
good_if kinds.Ge text words is none = is
good_if kinds.Gt text words is none = is
good_if kinds.Le text words is none = is
good_if kinds.Lt text words is none = is
good_if kinds.ValidateByteRange text words is none = is
good_if kinds.ValidateUrlEncoding text words is none = is
good_if kinds.ValidateUtf8Encoding text words is none = is
good_if kinds.UnconditionalMatch text words is none = is
good_if kinds.NoMatch text words is none = is

bad_gives : (o : Option (List ℕ)) (operator : Operator) → (o ≡ None → IsGood operator.op) → Given (λ (given : Operator). IsGood given.op) (unless_bad o operator)
bad_gives None operator good = good refl
bad_gives (Some word) operator good = tt

checked_gives : (operator : Operator) → StatedArgument operator.op.kind operator.op.text operator.op.words → Given (λ (given : Operator). IsGood given.op) (checked operator)
checked_gives operator is =
    bad_gives (if is_of_addresses operator.op.kind then first_bad operator.op.words else None) operator (λ none. good_if operator.op.kind operator.op.text operator.op.words is none)

abbrev pub IsGoodWhole : Operator × ℕ → Type 0
IsGoodWhole whole = IsGood whole.0.op

module _ (files : Named) (bytes : HoldBytes files) where
  pub operator_at_gives : (file : List ℕ) (line : ℕ) (word : List ℕ) (total : ℕ) → Given IsStated (operator_of word) → Given IsGoodWhole (operator_at files file line word total)
  unfolding operator_at
  operator_at_gives file line word total read =
      given_bind IsStated IsGoodWhole (placed file line (operator_of word)) (λ stated. filled files file line stated.file stated total >>= λ whole. checked_at file line whole) (given_placed IsStated file line (operator_of word) read)
      (λ stated is. given_bind IsFilled IsGoodWhole (filled files file line stated.file stated total) (λ whole. checked_at file line whole) (filled_gives files file line stated.file stated total bytes is.1 is.0)
      (λ whole h. given_bind (λ (given : Operator). IsGood given.op) IsGoodWhole (placed file line (checked whole.0)) (λ operator. Ok (operator, whole.1))
      (given_placed (λ (given : Operator). IsGood given.op) file line (checked whole.0) (checked_gives whole.0 h)) (λ operator good. good)))
