-- A built operator means what its operator means.
use Rattle.std.proofs.Common.{◌≡◌, ◌≢◌, ℕ, List, [], length, true, false, refl, ap, ◌∙◌, Option, None, Some, option_map, Result, Ok, Err}
use Rattle.std.specs.Prelude.{IsSome, IfOk, OnOk, is_none}
use Rattle.std.specs.Str.{IsUtf8, is_utf8}
use Rattle.std.proofs.lemmas.Str.{is_utf8-from_IsUtf8}
use Rattle.regex.specs.Bytes.{group_count, regex_config, regex_source, regex_pattern, IsReadFromSource}
use Rattle.regex.specs.Patterns.{find}
use Rattle.regex.specs.declared.bytes.regex.Regex.{Regex}
use Rattle.sec_ast.specs.declared.operator.OpKind as kinds
use Rattle.sec_ast.specs.declared.operator.OpKind.TheVariants.{Rx, RxBytes, Pm, Streq, Contains, BeginsWith, EndsWith, Within, Eq, Ge, Gt, Le, Lt, IpMatch, ValidateByteRange, ValidateUrlEncoding, ValidateUtf8Encoding, UnconditionalMatch, NoMatch}
use Rattle.sec_ast.specs.declared.operator.Op.{Op}
use Rattle.sec_ops.specs.declared.built.Test.{Test}
use Rattle.sec_ops.specs.declared.built.BuildFault.{BuildFault}
use Rattle.pattern_text.specs.Wording.{worded}
use Rattle.sec_ops.specs.Bytes.{IsBytes}
use Rattle.sec_ops.specs.Hits.{Groups, test_hit, hit, bytes_hit, bytes_reading, is_unread_op, pattern_hit, plain_test, hit_of, source_of, source_reading, when}
use Rattle.sec_ops.specs.Pattern.{reading_of, rule_config, spans_of, texts_in}
use Rattle.sec_ops.proofs.PatternLemmas.{reading, groups_alike, name_count}

pub compiled : (r : Regex) (source value : List ℕ) → regex_source r ≡ source → regex_config r ≡ rule_config → IsReadFromSource r → IsUtf8 source → IsBytes value
    → option_map (texts_in value) (option_map (spans_of (group_count r)) (find (regex_pattern r) value 0)) ≡ pattern_hit source value
compiled r source value is_source is_config is_read utf8 bytes =
    let x = reading r source is_source is_config is_read in
    let count : group_count r ≡ length x.0.1 = name_count r ∙ ap length x.3 in
    let text : is_utf8 source ≡ true = is_utf8-from_IsUtf8 source utf8 in
    rw (text, x.1, ← count) (ap (option_map (texts_in value)) (groups_alike _ _ x.2 value bytes (group_count r) 0))

pub plain_hit : (kind : kinds.OpKind) (source : List ℕ) (words : List (List ℕ)) (argument value : List ℕ) → kind ≢ Rx → kind ≢ RxBytes → kind ≢ Pm → kind ≢ IpMatch → kind ≢ ValidateByteRange
    → when (plain_test kind argument value) ≡ hit_of kind source words argument value
unfolding hit_of
plain_hit Rx source words argument value a b c d e = absurd (a refl)
plain_hit RxBytes source words argument value a b c d e = absurd (b refl)
plain_hit Pm source words argument value a b c d e = absurd (c refl)
plain_hit IpMatch source words argument value a b c d e = absurd (d refl)
plain_hit ValidateByteRange source words argument value a b c d e = absurd (e refl)
plain_hit Streq source words argument value a b c d e = refl
plain_hit Contains source words argument value a b c d e = refl
plain_hit BeginsWith source words argument value a b c d e = refl
plain_hit EndsWith source words argument value a b c d e = refl
plain_hit Within source words argument value a b c d e = refl
plain_hit Eq source words argument value a b c d e = refl
plain_hit Ge source words argument value a b c d e = refl
plain_hit Gt source words argument value a b c d e = refl
plain_hit Le source words argument value a b c d e = refl
plain_hit Lt source words argument value a b c d e = refl
plain_hit ValidateUrlEncoding source words argument value a b c d e = refl
plain_hit ValidateUtf8Encoding source words argument value a b c d e = refl
plain_hit UnconditionalMatch source words argument value a b c d e = refl
plain_hit NoMatch source words argument value a b c d e = refl

-- ---- patterns with a reading, and without one

pub unread_rx : (kind : kinds.OpKind) (source : List ℕ) → kind ≡ Rx → is_none (source_reading source) ≡ is_unread_op kind source
unfolding is_unread_op
unread_rx kind source k = rw k refl

pub unread_bytes : (kind : kinds.OpKind) (source : List ℕ) → kind ≡ RxBytes → is_none (bytes_reading source) ≡ is_unread_op kind source
unfolding is_unread_op
unread_bytes kind source k = rw k refl

-- no other kind has a pattern
pub never_unread : (kind : kinds.OpKind) (source : List ℕ) → kind ≢ Rx → kind ≢ RxBytes → is_unread_op kind source ≡ false
unfolding is_unread_op
never_unread Rx source a b = absurd (a refl)
never_unread RxBytes source a b = absurd (b refl)
never_unread Pm source a b = refl
never_unread Streq source a b = refl
never_unread Contains source a b = refl
never_unread BeginsWith source a b = refl
never_unread EndsWith source a b = refl
never_unread Within source a b = refl
never_unread Eq source a b = refl
never_unread Ge source a b = refl
never_unread Gt source a b = refl
never_unread Le source a b = refl
never_unread Lt source a b = refl
never_unread IpMatch source a b = refl
never_unread ValidateByteRange source a b = refl
never_unread ValidateUrlEncoding source a b = refl
never_unread ValidateUtf8Encoding source a b = refl
never_unread UnconditionalMatch source a b = refl
never_unread NoMatch source a b = refl

pub phrases_read : (r : Result Test BuildFault) (op : Op) → op.kind ≡ Pm → OnOk r (is_unread_op op.kind (source_of op.text) ≡ false)
unfolding is_unread_op
phrases_read (Ok test) op k = rw k refl
phrases_read (Err e) op k = tt

pub addresses_read : (r : Result Test BuildFault) (op : Op) → op.kind ≡ IpMatch → OnOk r (is_unread_op op.kind (source_of op.text) ≡ false)
unfolding is_unread_op
addresses_read (Ok test) op k = rw k refl
addresses_read (Err e) op k = tt

pub ranges_read : (r : Result Test BuildFault) (op : Op) → op.kind ≡ ValidateByteRange → OnOk r (is_unread_op op.kind (source_of op.text) ≡ false)
unfolding is_unread_op
ranges_read (Ok test) op k = rw k refl
ranges_read (Err e) op k = tt

-- a pattern of PCRE reads and hits as its wording does
pub worded_reading : (pattern text : List ℕ) → worded pattern ≡ Some text → source_reading text ≡ bytes_reading pattern
worded_reading pattern text is = rw is refl

pub worded_hit : (pattern text value : List ℕ) → worded pattern ≡ Some text → pattern_hit text value ≡ bytes_hit pattern value
worded_hit pattern text value is = rw is refl

pub no_wording : (pattern : List ℕ) → worded pattern ≡ None → is_none (bytes_reading pattern) ≡ true
no_wording pattern is = rw is refl

pub readable : (source : List ℕ) → IsUtf8 source → IsSome (reading_of source) → is_none (source_reading source) ≡ false
readable source utf8 h = let text : is_utf8 source ≡ true = is_utf8-from_IsUtf8 source utf8 in rw text (some_is (reading_of source) h)
  where
    some_is : {A : Type 0} (o : Option A) → IsSome o → is_none o ≡ false
    some_is None h = absurd cc
    some_is (Some x) h = refl

pub unreadable : (source : List ℕ) → is_utf8 source ≡ false → is_none (source_reading source) ≡ true
unreadable source none = rw none refl

pub unreadable_text : (source : List ℕ) → IsUtf8 source → reading_of source ≡ None → is_none (source_reading source) ≡ true
unreadable_text source utf8 none = let text : is_utf8 source ≡ true = is_utf8-from_IsUtf8 source utf8 in rw (text, none) refl

-- another way to write what is found
pub carried : (r : Result Test BuildFault) (f g : List ℕ → List ℕ → Option Groups) → ((a v : List ℕ) → f a v ≡ g a v)
    → IfOk r (λ b. (a v : List ℕ) → IsBytes v → test_hit b a v ≡ f a v) → IfOk r (λ b. (a v : List ℕ) → IsBytes v → test_hit b a v ≡ g a v)
carried (Ok b) f g same h = λ a v bytes. h a v bytes ∙ same a v
carried (Err e) f g same h = tt

pub carried_any : (r : Result Test BuildFault) (f g : List ℕ → List ℕ → Option Groups) → ((a v : List ℕ) → f a v ≡ g a v)
    → IfOk r (λ b. (a v : List ℕ) → test_hit b a v ≡ f a v) → IfOk r (λ b. (a v : List ℕ) → IsBytes v → test_hit b a v ≡ g a v)
carried_any (Ok b) f g same h = λ a v bytes. h a v ∙ same a v
carried_any (Err e) f g same h = tt

pub pattern_same : (op : Op) (source : List ℕ) → op.kind ≡ Rx → source ≡ source_of op.text → (a v : List ℕ) → pattern_hit source v ≡ hit op a v
unfolding hit_of
pattern_same op source k s a v = rw (k, s) refl

pub bytes_same : (op : Op) (source : List ℕ) → op.kind ≡ RxBytes → source ≡ source_of op.text → (a v : List ℕ) → bytes_hit source v ≡ hit op a v
unfolding hit_of
bytes_same op source k s a v = rw (k, s) refl

pub phrases_same : (op : Op) → op.kind ≡ Pm → (a v : List ℕ) → hit_of Pm [] op.words a v ≡ hit op a v
unfolding hit_of
phrases_same op k a v = rw k refl

pub addresses_same : (op : Op) → op.kind ≡ IpMatch → (a v : List ℕ) → hit_of IpMatch [] op.words a v ≡ hit op a v
unfolding hit_of
addresses_same op k a v = rw k refl

pub ranges_same : (op : Op) → op.kind ≡ ValidateByteRange → (a v : List ℕ) → hit_of ValidateByteRange [] op.words a v ≡ hit op a v
unfolding hit_of
ranges_same op k a v = rw k refl
