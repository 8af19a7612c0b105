-- An operator that was read from a word is read back from its own text.
use Rattle.std.proofs.Common.{◌≡◌, ℕ, ◌/◌, ◌%◌, ◌<◌, Bool, true, false, List, [], ◌∷◌, ◌++◌, map, take, drop, Option, Some, None, Ok, refl, sym, ◌∙◌, append-nil, arith, subst, inl, inr, codes}
use Rattle.std.specs.Prelude.{if◌then◌else◌, not, ◌&&◌, ◌==◌, nat_le, nat_lt}
use Rattle.std.specs.List.{AllByRecursion, list_all, position_or_len, prefix_len}
use Rattle.std.proofs.lemmas.Bool.{agree_below_at, and_from, and_parts, cases_Bool, false≢true, le-leb, leb-true, ltb-true}
use Rattle.sec_ast.specs.Operator.{operator_name, operator_named}
use Rattle.sec_ast.specs.PrintMacros.{macro_text}
use Rattle.sec_ast.specs.PrintOperators.{argument_text, behind_blank, hex_digit, is_plain, operator_text, phrase_byte, phrase_text}
use Rattle.sec_ast.specs.declared.macros.Part.{Part}
use Rattle.sec_ast.specs.declared.operator.Op.{Op}
use Rattle.sec_ast.specs.declared.operator.OpKind.{OpKind}
use Rattle.sec_ast.specs.declared.operator.OpKind.TheVariants as kinds
use Rattle.sec_text.specs.Quotes.{is_blank}
use Rattle.sec_text.specs.Written.{ends_with_backslash}
use Rattle.sec_parts.specs.declared.operators.Operator.{Operator}
use Rattle.sec_parts.specs.Macros.{macro_of}
use Rattle.sec_parts.specs.Operators.{behind_at, expanded, from_file, is_refused_operator, literal, named, of_kind, operator_of, reads_address_file, reads_phrase_file, stated, unless_negated, with_argument, with_text, without_argument}
use Rattle.sec_parts.specs.Operators as read
use Rattle.sec_parts.specs.Phrases.{addresses_of, phrases_of, ranges_of}
use Rattle.sec_parts.specs.Results.{refused}
use Rattle.sec_parts.specs.Texts.{skip_blanks}
use Rattle.sec_read.specs.declared.modes.PatternMode.{PatternMode}
use Rattle.sec_read.specs.declared.modes.PatternMode.TheVariants as modes
use Rattle.sec_read.specs.Modes.{kind_in}
use Rattle.sec_read.specs.Operators.{is_address_word, is_of_addresses}
use Rattle.sec_round_trip.specs.Lines.{is_printed}
use Rattle.sec_round_trip.specs.Macros.{IsMacro}
use Rattle.sec_round_trip.specs.Operators.{IsAddress, IsArgument, IsLiteral, IsOperator, IsPhrase, IsRange, begins_with_blank}
use Rattle.sec_round_trip.specs.Printable.{HasAddresses}
use Rattle.sec_round_trip.specs.Targets.{is_empty}
use Rattle.sec_round_trip.proofs.AddressReads.{address_bytes, address_some, is_word_byte, no_partings, range_bytes}
use Rattle.sec_round_trip.proofs.FineTexts.{blank_low, IsFine, all_append, fine_append, fine_behind, fine_byte, fine_from, fine_printed, fine_skip, low_byte}
use Rattle.sec_round_trip.proofs.Alike.{Alike, blank_alike, ends_alike}
use Rattle.sec_parts.proofs.Given.{Given, given_bind, given_from, given_if}
use Rattle.sec_round_trip.proofs.Somes.{some_front}
use Rattle.sec_round_trip.proofs.Sound.{IsClean, IsGraphWord, IsSound, clean_nil, ends_drop, ends_tail, graphs_clean, is_graph, joined_clean, sound_append, sound_of}
use Rattle.sec_round_trip.proofs.WordReads.{StopsAt, after_front, phrases_give, ranges_give}

-- ---- what was read of each kind; addresses are looked at later, also those of a file

abbrev pub StatedArgument : OpKind → List Part → List (List ℕ) → Type 0
StatedArgument kinds.Rx text words = IsLiteral text × (words ≡ []) × IsClean (macro_text text)
StatedArgument kinds.RxBytes text words = IsLiteral text × (words ≡ []) × IsClean (macro_text text)
StatedArgument kinds.Pm text words = (text ≡ []) × AllByRecursion IsPhrase words
StatedArgument kinds.IpMatch text words = text ≡ []
StatedArgument kinds.ValidateByteRange text words = (text ≡ []) × AllByRecursion IsRange words
StatedArgument kinds.ValidateUrlEncoding text words = (text ≡ []) × (words ≡ [])
StatedArgument kinds.ValidateUtf8Encoding text words = (text ≡ []) × (words ≡ [])
StatedArgument kinds.UnconditionalMatch text words = (text ≡ []) × (words ≡ [])
StatedArgument kinds.NoMatch text words = (text ≡ []) × (words ≡ [])
StatedArgument other text words = IsMacro text × (words ≡ []) × IsClean (macro_text text)

-- only phrases and addresses stand in files
abbrev pub FileKind : Option (List ℕ) → OpKind → Type 0
FileKind None kind = Unit {0}
FileKind (Some name) kinds.Pm = Unit {0}
FileKind (Some name) kinds.IpMatch = Unit {0}
FileKind (Some name) other = ⊥

abbrev pub IsStated : Operator → Type 0
IsStated stated = StatedArgument stated.op.kind stated.op.text stated.op.words × FileKind stated.file stated.op.kind

literal_is : (argument : List ℕ) → IsLiteral (literal argument)
literal_is [] = tt
literal_is (b ∷ argument) = refl

literal_text : (argument : List ℕ) → macro_text (literal argument) ≡ argument
unfolding macro_text
literal_text [] = refl
literal_text (b ∷ argument) = append-nil (b ∷ argument)

nothing_text : macro_text [] ≡ []
unfolding macro_text
nothing_text = refl

clean_skip : (text : List ℕ) → IsFine text → ends_with_backslash text ≡ false → IsClean (skip_blanks text)
clean_skip text fine ends = record {
  fine = fine_skip true is_blank blank_low text fine;
  ends = ends_drop (prefix_len is_blank text) text ends;
  blank = no_blank (skip_blanks text) (after_front is_blank text);
}
  where
    no_blank : (text : List ℕ) → StopsAt is_blank text → begins_with_blank text ≡ false
    no_blank [] h = refl
    no_blank (b ∷ text) h = h

module _ (macros : (text : List ℕ) (macro : List Part) → macro_of text ≡ Ok macro → IsMacro macro)
    (alike : (text : List ℕ) (macro : List Part) → macro_of text ≡ Ok macro → Alike true text (macro_text macro)) where
  pub clean_macro : (text : List ℕ) → IsClean text → Given (λ macro. IsMacro macro × IsClean (macro_text macro)) (macro_of text)
  clean_macro text is = given_from (λ macro. IsMacro macro × IsClean (macro_text macro)) (macro_of text) (λ macro e.
      let same = alike text macro e in (
        macros text macro e,
        record {
          fine = same.fine is.fine;
          ends = sym (ends_alike true text (macro_text macro) same) ∙ is.ends;
          blank = sym (blank_alike true text (macro_text macro) same) ∙ is.blank;
        },
      ))

  expanded_gives : (negated : Bool) (kind : OpKind) (argument : List ℕ) → IsClean argument → ((macro : List Part) → IsMacro macro × IsClean (macro_text macro) → IsStated (with_text negated kind macro)) → Given IsStated (expanded negated kind argument)
  expanded_gives negated kind argument is made =
      given_bind (λ macro. IsMacro macro × IsClean (macro_text macro)) IsStated (macro_of argument) (λ macro. Ok (with_text negated kind macro)) (clean_macro argument is) made

  without_gives : (negated : Bool) (kind : OpKind) (argument : List ℕ) → IsStated (with_text negated kind []) → Given IsStated (without_argument negated kind argument)
  without_gives negated kind [] is = is
  without_gives negated kind (b ∷ argument) is = tt

  argument_gives : (negated : Bool) (argument : List ℕ) (kind : OpKind) → IsClean argument → Given IsStated (with_argument negated argument kind)
  argument_gives negated argument kinds.Rx is = ((literal_is argument, refl, subst IsClean (sym (literal_text argument)) is), tt)
  argument_gives negated argument kinds.RxBytes is = ((literal_is argument, refl, subst IsClean (sym (literal_text argument)) is), tt)
  argument_gives negated argument kinds.Pm is =
      given_bind (AllByRecursion IsPhrase) IsStated (phrases_of argument) (λ words. Ok (read.with_words negated kinds.Pm words)) (phrases_give argument is.fine.bytes) (λ words are. ((refl, are), tt))
  argument_gives negated argument kinds.Streq is = expanded_gives negated kinds.Streq argument is (λ macro are. ((are.0, refl, are.1), tt))
  argument_gives negated argument kinds.Contains is = expanded_gives negated kinds.Contains argument is (λ macro are. ((are.0, refl, are.1), tt))
  argument_gives negated argument kinds.BeginsWith is = expanded_gives negated kinds.BeginsWith argument is (λ macro are. ((are.0, refl, are.1), tt))
  argument_gives negated argument kinds.EndsWith is = expanded_gives negated kinds.EndsWith argument is (λ macro are. ((are.0, refl, are.1), tt))
  argument_gives negated argument kinds.Within is = expanded_gives negated kinds.Within argument is (λ macro are. ((are.0, refl, are.1), tt))
  argument_gives negated argument kinds.Eq is = expanded_gives negated kinds.Eq argument is (λ macro are. ((are.0, refl, are.1), tt))
  argument_gives negated argument kinds.Ge is = expanded_gives negated kinds.Ge argument is (λ macro are. ((are.0, refl, are.1), tt))
  argument_gives negated argument kinds.Gt is = expanded_gives negated kinds.Gt argument is (λ macro are. ((are.0, refl, are.1), tt))
  argument_gives negated argument kinds.Le is = expanded_gives negated kinds.Le argument is (λ macro are. ((are.0, refl, are.1), tt))
  argument_gives negated argument kinds.Lt is = expanded_gives negated kinds.Lt argument is (λ macro are. ((are.0, refl, are.1), tt))
  argument_gives negated argument kinds.IpMatch is =
      given_bind (λ words. Unit {0}) IsStated (addresses_of argument) (λ words. Ok (read.with_words negated kinds.IpMatch words)) (given_from (λ words. Unit {0}) (addresses_of argument) (λ words e. tt)) (λ words are. (refl, tt))
  argument_gives negated argument kinds.ValidateByteRange is =
      given_bind (AllByRecursion IsRange) IsStated (ranges_of argument) (λ words. Ok (read.with_words negated kinds.ValidateByteRange words)) (ranges_give argument is.fine.bytes) (λ words are. ((refl, are), tt))
  argument_gives negated argument kinds.ValidateUrlEncoding is = without_gives negated kinds.ValidateUrlEncoding argument ((refl, refl), tt)
  argument_gives negated argument kinds.ValidateUtf8Encoding is = without_gives negated kinds.ValidateUtf8Encoding argument ((refl, refl), tt)
  argument_gives negated argument kinds.UnconditionalMatch is = without_gives negated kinds.UnconditionalMatch argument ((refl, refl), tt)
  argument_gives negated argument kinds.NoMatch is = without_gives negated kinds.NoMatch argument ((refl, refl), tt)

  kind_gives : (negated : Bool) (name argument : List ℕ) (o : Option OpKind) → IsClean argument → Given IsStated (of_kind negated name argument o)
  kind_gives negated name argument None is = tt
  kind_gives negated name argument (Some kind) is = argument_gives negated argument kind is

  named_gives : (negated : Bool) (name argument : List ℕ) → IsClean argument → Given IsStated (named negated name argument)
  named_gives negated name argument is =
      given_if IsStated (is_refused_operator name) (refused (64 ∷ name)) _ (λ h. tt)
      (λ h. given_if IsStated (reads_phrase_file name) (Ok (from_file negated kinds.Pm argument)) _ (λ i. ((refl, tt), tt))
      (λ i. given_if IsStated (reads_address_file name) (Ok (from_file negated kinds.IpMatch argument)) (of_kind negated name argument (operator_named name)) (λ j. (refl, tt))
      (λ j. kind_gives negated name argument (operator_named name) is)))

  behind_gives : (negated : Bool) (text : List ℕ) → IsFine text → ends_with_backslash text ≡ false → Given IsStated (behind_at negated text)
  behind_gives negated text fine ends =
      let n : ℕ = position_or_len is_blank text in
      named_gives negated (take n text) (skip_blanks (drop n text)) (clean_skip (drop n text) (fine_from true is_blank blank_low text fine) (ends_drop n text ends))

  stated_gives : (negated : Bool) (text : List ℕ) → IsClean text → Given IsStated (stated negated text)
  stated_gives negated [] is = argument_gives negated [] kinds.Rx is
  stated_gives negated (b ∷ text) is =
      given_if IsStated (b == 64) (behind_at negated text) (with_argument negated (b ∷ text) kinds.Rx) (λ h. behind_gives negated text (fine_behind true b text (low_byte 64 refl b h) is.fine) (ends_tail b text is.ends))
      (λ h. argument_gives negated (b ∷ text) kinds.Rx is)

  negated_gives : (text : List ℕ) → IsClean text → Given IsStated (unless_negated text)
  negated_gives [] is = stated_gives false [] is
  negated_gives (b ∷ text) is =
      given_if IsStated (b == 33) (stated true (skip_blanks text)) (stated false (b ∷ text)) (λ h. stated_gives true (skip_blanks text) (clean_skip text (fine_behind true b text (low_byte 33 refl b h) is.fine) (ends_tail b text is.ends)))
      (λ h. stated_gives false (b ∷ text) is)

  pub operator_gives : (word : List ℕ) → IsSound word → Given IsStated (operator_of word)
  unfolding operator_of
  operator_gives word is = negated_gives (skip_blanks word) (clean_skip word is.fine is.ends)

-- ---- once the addresses are some

abbrev pub GoodArgument : OpKind → List Part → List (List ℕ) → Type 0
GoodArgument kinds.IpMatch text words = (text ≡ []) × AllByRecursion (λ word. is_address_word word ≡ true) words
GoodArgument other text words = StatedArgument other text words

pub word_graph : (text : List ℕ) → list_all is_word_byte text ≡ true → list_all is_graph text ≡ true
word_graph [] h = refl
word_graph (b ∷ text) h =
    let parts = and_parts (is_word_byte b) (list_all is_word_byte text) h in
    and_from (is_graph b) (list_all is_graph text) (one b parts.0) (word_graph text parts.1)
  where
    one : (b : ℕ) → is_word_byte b ≡ true → is_graph b ≡ true
    one b h =
        let two = and_parts (nat_le 45 b && nat_le b 122) (not (b == 92)) h in
        let sides = and_parts (nat_le 45 b) (nat_le b 122) two.0 in
        let low = leb-true 45 b sides.0 in
        let high = leb-true b 122 sides.1 in
        and_from (nat_le 33 b && nat_le b 126) (not (b == 92)) (and_from (nat_le 33 b) (nat_le b 126) (le-leb 33 b (omega (arith, low))) (le-leb b 126 (omega (arith, high)))) two.1

addresses_graph : (words : List (List ℕ)) → AllByRecursion (λ word. is_address_word word ≡ true) words → AllByRecursion IsGraphWord words
addresses_graph [] are = tt
addresses_graph (word ∷ words) are = ((address_some word are.0, word_graph word (address_bytes word are.0)), addresses_graph words are.1)

addresses_are : (words : List (List ℕ)) → AllByRecursion (λ word. is_address_word word ≡ true) words → AllByRecursion IsAddress words
addresses_are [] are = tt
addresses_are (word ∷ words) are = ((address_some word are.0, no_partings word (address_bytes word are.0)), addresses_are words are.1)

ranges_graph : (words : List (List ℕ)) → AllByRecursion IsRange words → AllByRecursion IsGraphWord words
ranges_graph [] are = tt
ranges_graph (word ∷ words) are = ((are.0.0.0, word_graph word (range_bytes word are.0.1)), ranges_graph words are.1)

hex_graph : (n : ℕ) → n < 16 → is_graph (hex_digit n) ≡ true
hex_graph n small = agree_below_at (λ k. is_graph (hex_digit k)) (λ k. true) 16 n refl small

plain_graph : (b : ℕ) → is_plain b ≡ true → is_graph b ≡ true
plain_graph b h =
    let one = and_parts _ (not (b == 92)) h in
    let two = and_parts _ (not (b == 124)) one.0 in
    let three = and_parts _ (not (b == 34)) two.0 in
    and_from (nat_le 33 b && nat_le b 126) (not (b == 92)) three.0 one.1

byte_graph : (b : ℕ) → b < 256 → list_all is_graph (phrase_byte b) ≡ true
byte_graph b small = elim (cases_Bool (is_plain b)) [
  | inl is ↦ rw is (and_from (is_graph b) true (plain_graph b is) refl)
  | inr not_is ↦ rw not_is (pair (hex_digit (b / 16)) (hex_digit (b % 16)) (hex_graph (b / 16) (omega (arith, small))) (hex_graph (b % 16) (omega arith)))
]
  where
    pair : (x y : ℕ) → is_graph x ≡ true → is_graph y ≡ true → list_all is_graph (124 ∷ x ∷ y ∷ 124 ∷ []) ≡ true
    pair x y h i = rw (h, i) refl

phrase_graph : (phrase : List ℕ) → list_all (λ b. nat_lt b 256) phrase ≡ true → list_all is_graph (phrase_text phrase) ≡ true
phrase_graph [] h = refl
phrase_graph (b ∷ phrase) h =
    let parts = and_parts (nat_lt b 256) (list_all (λ b. nat_lt b 256) phrase) h in
    all_append is_graph (phrase_byte b) (phrase_text phrase) (byte_graph b (ltb-true b 256 parts.0)) (phrase_graph phrase parts.1)

some_byte : (b : ℕ) → is_empty (phrase_byte b) ≡ false
some_byte b = elim (cases_Bool (is_plain b)) [
  | inl is ↦ rw is refl
  | inr not_is ↦ rw not_is refl
]

some_phrase : (phrase : List ℕ) → is_empty phrase ≡ false → is_empty (phrase_text phrase) ≡ false
some_phrase [] h = h
some_phrase (b ∷ phrase) h = some_front (phrase_byte b) (phrase_text phrase) (some_byte b)

phrases_graph : (words : List (List ℕ)) → AllByRecursion IsPhrase words → AllByRecursion IsGraphWord (map phrase_text words)
phrases_graph [] are = tt
phrases_graph (word ∷ words) are = ((some_phrase word are.0.0, phrase_graph word are.0.1), phrases_graph words are.1)

nothing_clean : (text : List Part) → text ≡ [] → IsClean (macro_text text)
nothing_clean text none = subst (λ (m : List Part). IsClean (macro_text m)) (sym none) (subst IsClean (sym nothing_text) clean_nil)

pub argument_clean : (kind : OpKind) (text : List Part) (words : List (List ℕ)) → GoodArgument kind text words → IsClean (argument_text kind text words)
argument_clean kinds.Rx text words is = is.2
argument_clean kinds.RxBytes text words is = is.2
argument_clean kinds.Pm text words is = joined_clean 32 (map phrase_text words) refl (phrases_graph words is.1)
argument_clean kinds.Streq text words is = is.2
argument_clean kinds.Contains text words is = is.2
argument_clean kinds.BeginsWith text words is = is.2
argument_clean kinds.EndsWith text words is = is.2
argument_clean kinds.Within text words is = is.2
argument_clean kinds.Eq text words is = is.2
argument_clean kinds.Ge text words is = is.2
argument_clean kinds.Gt text words is = is.2
argument_clean kinds.Le text words is = is.2
argument_clean kinds.Lt text words is = is.2
argument_clean kinds.IpMatch text words is = joined_clean 44 words refl (addresses_graph words is.1)
argument_clean kinds.ValidateByteRange text words is = joined_clean 44 words refl (ranges_graph words is.1)
argument_clean kinds.ValidateUrlEncoding text words is = nothing_clean text is.0
argument_clean kinds.ValidateUtf8Encoding text words is = nothing_clean text is.0
argument_clean kinds.UnconditionalMatch text words is = nothing_clean text is.0
argument_clean kinds.NoMatch text words is = nothing_clean text is.0

argument_is : (kind : OpKind) (text : List Part) (words : List (List ℕ)) → GoodArgument kind text words → IsArgument kind text words
argument_is kinds.Rx text words is = (is.0, is.1)
argument_is kinds.RxBytes text words is = (is.0, is.1)
argument_is kinds.Pm text words is = is
argument_is kinds.Streq text words is = (is.0, is.1)
argument_is kinds.Contains text words is = (is.0, is.1)
argument_is kinds.BeginsWith text words is = (is.0, is.1)
argument_is kinds.EndsWith text words is = (is.0, is.1)
argument_is kinds.Within text words is = (is.0, is.1)
argument_is kinds.Eq text words is = (is.0, is.1)
argument_is kinds.Ge text words is = (is.0, is.1)
argument_is kinds.Gt text words is = (is.0, is.1)
argument_is kinds.Le text words is = (is.0, is.1)
argument_is kinds.Lt text words is = (is.0, is.1)
argument_is kinds.IpMatch text words is = (is.0, addresses_are words is.1)
argument_is kinds.ValidateByteRange text words is = is
argument_is kinds.ValidateUrlEncoding text words is = is
argument_is kinds.ValidateUtf8Encoding text words is = is
argument_is kinds.UnconditionalMatch text words is = is
argument_is kinds.NoMatch text words is = is

abbrev pub IsGood : Op → Type 0
IsGood op = GoodArgument op.kind op.text op.words

-- whatever the mode in which its line is read
in_mode : (mode : PatternMode) (kind : OpKind) (text : List Part) (words : List (List ℕ)) → GoodArgument kind text words → GoodArgument (kind_in mode kind) text words
in_mode modes.Unicode kind text words is = is
in_mode modes.Bytes kinds.Rx text words is = is
in_mode modes.Bytes kinds.RxBytes text words is = is
in_mode modes.Bytes kinds.Pm text words is = is
in_mode modes.Bytes kinds.Streq text words is = is
in_mode modes.Bytes kinds.Contains text words is = is
in_mode modes.Bytes kinds.BeginsWith text words is = is
in_mode modes.Bytes kinds.EndsWith text words is = is
in_mode modes.Bytes kinds.Within text words is = is
in_mode modes.Bytes kinds.Eq text words is = is
in_mode modes.Bytes kinds.Ge text words is = is
in_mode modes.Bytes kinds.Gt text words is = is
in_mode modes.Bytes kinds.Le text words is = is
in_mode modes.Bytes kinds.Lt text words is = is
in_mode modes.Bytes kinds.IpMatch text words is = is
in_mode modes.Bytes kinds.ValidateByteRange text words is = is
in_mode modes.Bytes kinds.ValidateUrlEncoding text words is = is
in_mode modes.Bytes kinds.ValidateUtf8Encoding text words is = is
in_mode modes.Bytes kinds.UnconditionalMatch text words is = is
in_mode modes.Bytes kinds.NoMatch text words is = is

pub good_in_mode : (mode : PatternMode) (op : Op) → IsGood op → IsGood (record op { kind = kind_in mode op.kind })
good_in_mode mode op is = in_mode mode op.kind op.text op.words is

pub good_operator : (op : Op) → IsGood op → IsOperator op
good_operator op is = (argument_is op.kind op.text op.words is, (argument_clean op.kind op.text op.words is).blank)

good_words : (kind : OpKind) (text : List Part) (words : List (List ℕ)) → GoodArgument kind text words → is_of_addresses kind ≡ true → AllByRecursion (λ word. is_address_word word ≡ true) words
good_words kinds.IpMatch text words is h = is.1
good_words kinds.Rx text words is h = absurd (false≢true h)
good_words kinds.RxBytes text words is h = absurd (false≢true h)
good_words kinds.Pm text words is h = absurd (false≢true h)
good_words kinds.Streq text words is h = absurd (false≢true h)
good_words kinds.Contains text words is h = absurd (false≢true h)
good_words kinds.BeginsWith text words is h = absurd (false≢true h)
good_words kinds.EndsWith text words is h = absurd (false≢true h)
good_words kinds.Within text words is h = absurd (false≢true h)
good_words kinds.Eq text words is h = absurd (false≢true h)
good_words kinds.Ge text words is h = absurd (false≢true h)
good_words kinds.Gt text words is h = absurd (false≢true h)
good_words kinds.Le text words is h = absurd (false≢true h)
good_words kinds.Lt text words is h = absurd (false≢true h)
good_words kinds.ValidateByteRange text words is h = absurd (false≢true h)
good_words kinds.ValidateUrlEncoding text words is h = absurd (false≢true h)
good_words kinds.ValidateUtf8Encoding text words is h = absurd (false≢true h)
good_words kinds.UnconditionalMatch text words is h = absurd (false≢true h)
good_words kinds.NoMatch text words is h = absurd (false≢true h)

pub good_addresses : (op : Op) → IsGood op → HasAddresses op
good_addresses op is h = good_words op.kind op.text op.words is h

-- ---- the word is sound

behind_sound : (argument : List ℕ) → IsClean argument → IsSound (behind_blank argument)
behind_sound [] is = record { fine = is.fine; ends = refl }
behind_sound (b ∷ argument) is = record { fine = fine_append true (32 ∷ []) (b ∷ argument) (fine_byte true 32 refl refl) is.fine; ends = is.ends }

mark_sound : (negated : Bool) → IsSound (if negated then codes "!@" else codes "@")
mark_sound true = sound_of (codes "!@") (graphs_clean (codes "!@") refl)
mark_sound false = sound_of (codes "@") (graphs_clean (codes "@") refl)

module _ (printed : (kind : OpKind) → list_all is_printed (operator_name kind) ≡ true) (backslash : (kind : OpKind) → ends_with_backslash (operator_name kind) ≡ false) where
  name_sound : (kind : OpKind) → IsSound (operator_name kind)
  name_sound kind = record { fine = fine_printed true (operator_name kind) (printed kind); ends = backslash kind }

  pub good_sound : (negated : Bool) (op : Op) → IsGood op → IsSound (operator_text negated op)
  unfolding operator_text
  good_sound negated op is =
      let mark : List ℕ = if negated then codes "!@" else codes "@" in
      let name : List ℕ = operator_name op.kind in
      sound_append (mark ++ name) (behind_blank (argument_text op.kind op.text op.words)) (sound_append mark name (mark_sound negated) (name_sound op.kind)) (behind_sound (argument_text op.kind op.text op.words) (argument_clean op.kind op.text op.words is))
