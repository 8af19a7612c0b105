-- The bytes of addresses, of blocks of them and of ranges.
use Rattle.std.proofs.Common.{◌≡◌, ℕ, ◌-◌, ◌<◌, ◌≤◌, ◌^◌, Bool, true, false, cond, List, [], ◌∷◌, ◌++◌, length, take, drop, Option, Some, None, refl, sym, ap, ◌∙◌, arith, subst, inl, inr, codes, decimal}
use Rattle.std.specs.Prelude.{not, ◌&&◌, ◌==◌, nat_le, nat_lt, is_some}
use Rattle.std.specs.Char.{digit_value}
use Rattle.std.specs.List.{list_all, list_any, position_or_len}
use Rattle.std.specs.Net.Grammar.{IsColonHex, IsDotted, IsGroupsAfter, IsIpText}
use Rattle.std.specs.Str.Parse.{AllDigits}
use Rattle.std.specs.declared.net.ip_addr.IpAddr.{IpAddr}
use Rattle.std.specs.declared.net.ip_addr.IpAddr.TheVariants.{V4, V6}
use Rattle.std.proofs.lemmas.Bool.{and_from, and_parts, cases_Bool, eqb-true, false≢true, le-leb, leb-true, lt-ltb, ltb-false, ltb-true, ne_eqb, not-true, not_from_false, or_from}
use Rattle.std.proofs.lemmas.List.{take-append-drop}
use Rattle.ip_set.specs.Blocks.{IsWord, width}
use Rattle.ip_set.specs.declared.block.Block.{Block}
use Rattle.sec_text.specs.Written.{ends_with_backslash}
use Rattle.sec_parts.specs.Numbers.{is_digit, is_number}
use Rattle.sec_parts.specs.Phrases.{byte_of, ends_in_order, in_order, is_parting, is_range}
use Rattle.sec_parts.specs.Texts.{to_byte}
use Rattle.sec_read.specs.Operators.{is_address_word}
use Rattle.sec_read.proofs.AddressWords.{word_is}
use Rattle.sec_round_trip.specs.Lines.{is_printed}
use Rattle.sec_round_trip.specs.Targets.{is_empty}
use Rattle.sec_round_trip.proofs.DecimalTexts.{digits_are}
use Rattle.sec_round_trip.proofs.FineTexts.{all_append}
use Rattle.sec_round_trip.proofs.Places.{here, one_more}
use Rattle.sec_round_trip.proofs.Somes.{some_back, some_front, some_length}

-- ---- from - to z, but the backslash

abbrev pub is_word_byte : ℕ → Bool
is_word_byte b = (nat_le 45 b && nat_le b 122) && not (b == 92)

word_byte : (b : ℕ) → 45 ≤ b → b ≤ 122 → (b ≡ 92 → ⊥) → is_word_byte b ≡ true
word_byte b low high other =
    and_from (nat_le 45 b && nat_le b 122) (not (b == 92)) (and_from (nat_le 45 b) (nat_le b 122) (le-leb 45 b low) (le-leb b 122 high)) (not_from_false (b == 92) (ne_eqb b 92 other))

record IsWordByte (b : ℕ) : Type 0 where
  pub low : 45 ≤ b
  pub high : b ≤ 122
  pub other : (b == 92) ≡ false

word_byte_is : (b : ℕ) → is_word_byte b ≡ true → IsWordByte b
word_byte_is b h =
    let two = and_parts (nat_le 45 b && nat_le b 122) (not (b == 92)) h in
    let one = and_parts (nat_le 45 b) (nat_le b 122) two.0 in
    record { low = leb-true 45 b one.0; high = leb-true b 122 one.1; other = not_of (b == 92) two.1 }
  where
    not_of : (p : Bool) → not p ≡ true → p ≡ false
    not_of true h = sym h
    not_of false h = refl

no_parting : (b : ℕ) → is_word_byte b ≡ true → is_parting b ≡ false
no_parting b h =
    let is = word_byte_is b h in
    let low = is.low in
    rw (ne_eqb b 32 (λ e. omega (arith, low, e)), ne_eqb b 9 (λ e. omega (arith, low, e)), ne_eqb b 44 (λ e. omega (arith, low, e))) refl

printed_byte : (b : ℕ) → is_word_byte b ≡ true → is_printed b ≡ true
printed_byte b h =
    let is = word_byte_is b h in
    let low = is.low in
    let high = is.high in
    rw (lt-ltb b 128 (omega (arith, high)), ne_eqb b 10 (λ e. omega (arith, low, e))) refl

pub no_partings : (text : List ℕ) → list_all is_word_byte text ≡ true → list_any is_parting text ≡ false
no_partings [] h = refl
no_partings (b ∷ text) h =
    let parts = and_parts (is_word_byte b) (list_all is_word_byte text) h in
    or_from (is_parting b) (list_any is_parting text) (no_parting b parts.0) (no_partings text parts.1)

pub word_printed : (text : List ℕ) → list_all is_word_byte text ≡ true → list_all is_printed text ≡ true
word_printed [] h = refl
word_printed (b ∷ text) h =
    let parts = and_parts (is_word_byte b) (list_all is_word_byte text) h in
    and_from (is_printed b) (list_all is_printed text) (printed_byte b parts.0) (word_printed text parts.1)

pub word_ends : (text : List ℕ) → list_all is_word_byte text ≡ true → ends_with_backslash text ≡ false
word_ends [] h = refl
word_ends (b ∷ []) h = (word_byte_is b (and_parts (is_word_byte b) true h).0).other
word_ends (b ∷ c ∷ text) h = word_ends (c ∷ text) (and_parts (is_word_byte b) (list_all is_word_byte (c ∷ text)) h).1

-- ---- numbers

digit_byte : (b : ℕ) → is_digit b ≡ true → is_word_byte b ≡ true
digit_byte b h =
    let parts = and_parts (nat_le 48 b) (nat_le b 57) h in
    let low = leb-true 48 b parts.0 in
    let high = leb-true b 57 parts.1 in
    word_byte b (omega (arith, low)) (omega (arith, high)) (λ e. omega (arith, high, e))

digit_bytes : (text : List ℕ) → list_all is_digit text ≡ true → list_all is_word_byte text ≡ true
digit_bytes [] h = refl
digit_bytes (b ∷ text) h =
    let parts = and_parts (is_digit b) (list_all is_digit text) h in
    and_from (is_word_byte b) (list_all is_word_byte text) (digit_byte b parts.0) (digit_bytes text parts.1)

pub decimal_bytes : (n : ℕ) → n < 2 ^ 64 → list_all is_word_byte (decimal n) ≡ true
decimal_bytes n small = digit_bytes (decimal n) (digits_are n small).digits

-- ---- addresses

hex_if : (c : ℕ) (p q r s t u : Bool) → nat_lt c 48 ≡ p → nat_lt c 58 ≡ q → nat_lt c 65 ≡ r → nat_lt c 91 ≡ s → nat_lt c 97 ≡ t → nat_lt c 123 ≡ u
    → cond p 36 (cond q (c - 48) (cond r 36 (cond s (c - 55) (cond t 36 (cond u (c - 87) 36))))) < 16 → is_word_byte c ≡ true
hex_if c true q r s t u e1 e2 e3 e4 e5 e6 h = absurd (omega (arith, h))
hex_if c false true r s t u e1 e2 e3 e4 e5 e6 h =
    let low = ltb-false c 48 e1 in let high = ltb-true c 58 e2 in word_byte c (omega (arith, low)) (omega (arith, high)) (λ e. omega (arith, high, e))
hex_if c false false true s t u e1 e2 e3 e4 e5 e6 h = absurd (omega (arith, h))
hex_if c false false false true t u e1 e2 e3 e4 e5 e6 h =
    let low = ltb-false c 65 e3 in let high = ltb-true c 91 e4 in word_byte c (omega (arith, low)) (omega (arith, high)) (λ e. omega (arith, high, e))
hex_if c false false false false true u e1 e2 e3 e4 e5 e6 h = absurd (omega (arith, h))
hex_if c false false false false false true e1 e2 e3 e4 e5 e6 h =
    let low = ltb-false c 97 e5 in let high = ltb-true c 123 e6 in word_byte c (omega (arith, low)) (omega (arith, high)) (λ e. omega (arith, low, e))
hex_if c false false false false false false e1 e2 e3 e4 e5 e6 h = absurd (omega (arith, h))

hex_byte : (c : ℕ) → digit_value c < 16 → is_word_byte c ≡ true
hex_byte c h = hex_if c (nat_lt c 48) (nat_lt c 58) (nat_lt c 65) (nat_lt c 91) (nat_lt c 97) (nat_lt c 123) refl refl refl refl refl refl h

hex_bytes : (text : List ℕ) → AllDigits 16 text → list_all is_word_byte text ≡ true
hex_bytes [] h = refl
hex_bytes (c ∷ text) h = and_from (is_word_byte c) (list_all is_word_byte text) (hex_byte c h.0) (hex_bytes text h.1)

joined : (xs ys : List ℕ) → list_all is_word_byte xs ≡ true → list_all is_word_byte ys ≡ true → list_all is_word_byte (xs ++ ys) ≡ true
joined xs ys a b = all_append is_word_byte xs ys a b

dotted_bytes : (text octets : List ℕ) → IsDotted text octets → list_all is_word_byte text ≡ true
dotted_bytes text octets is =
    let fit = is.fit in
    let first = fit.0 in let second = fit.1 in let third = fit.2 in let fourth = fit.3 in
    let a : list_all is_word_byte (decimal is.a) ≡ true = decimal_bytes is.a (omega (arith, first)) in
    let b : list_all is_word_byte (decimal is.b) ≡ true = decimal_bytes is.b (omega (arith, second)) in
    let c : list_all is_word_byte (decimal is.c) ≡ true = decimal_bytes is.c (omega (arith, third)) in
    let d : list_all is_word_byte (decimal is.d) ≡ true = decimal_bytes is.d (omega (arith, fourth)) in
    let dot : List ℕ = codes "." in
    subst (λ (l : List ℕ). list_all is_word_byte l ≡ true) (sym is.spelled)
    (joined (decimal is.a ++ dot ++ decimal is.b ++ dot ++ decimal is.c ++ dot) (decimal is.d)
    (joined (decimal is.a ++ dot ++ decimal is.b ++ dot ++ decimal is.c) dot
    (joined (decimal is.a ++ dot ++ decimal is.b ++ dot) (decimal is.c)
    (joined (decimal is.a ++ dot ++ decimal is.b) dot
    (joined (decimal is.a ++ dot) (decimal is.b) (joined (decimal is.a) dot a refl) b) refl) c) refl) d)

groups_bytes : (ipv4 : Bool) (lead text segments : List ℕ) → list_all is_word_byte lead ≡ true → IsGroupsAfter ipv4 lead text segments → list_all is_word_byte text ≡ true
groups_bytes ipv4 lead text [] h is = ap (list_all is_word_byte) is
groups_bytes ipv4 lead text (s ∷ segments) h (inl is) =
    subst (λ (l : List ℕ). list_all is_word_byte l ≡ true) (sym is.2)
    (joined (lead ++ is.0) is.1 (joined lead is.0 h (hex_bytes is.0 is.3.0.0.1)) (groups_bytes ipv4 (codes ":") is.1 segments refl is.4))
groups_bytes ipv4 lead text (s ∷ segments) h (inr is) =
    subst (λ (l : List ℕ). list_all is_word_byte l ≡ true) (sym is.3) (joined lead is.0 h (dotted_bytes is.0 is.1 is.4))

colon_bytes : (text segments : List ℕ) → IsColonHex text segments → list_all is_word_byte text ≡ true
colon_bytes text segments (inl is) = groups_bytes true [] text segments refl is.0
colon_bytes text segments (inr is) =
    subst (λ (l : List ℕ). list_all is_word_byte l ≡ true) (sym is.spelled)
    (joined (is.head_text ++ codes "::") is.tail_text (joined is.head_text (codes "::") (groups_bytes false [] is.head_text is.head refl is.head_groups) refl) (groups_bytes true [] is.tail_text is.tail refl is.tail_groups))

ip_bytes : (text : List ℕ) (ip : IpAddr) → IsIpText text ip → list_all is_word_byte text ≡ true
ip_bytes text (V4 a) is = dotted_bytes text _ is
ip_bytes text (V6 a) is = colon_bytes text _ is

few_bits : (ip : IpAddr) (n : ℕ) → n ≤ width ip → n < 2 ^ 64
few_bits (V4 a) n h = omega (arith, h)
few_bits (V6 a) n h = omega (arith, h)

block_bytes : (word : List ℕ) (b : Block) → IsWord word b → list_all is_word_byte word ≡ true
block_bytes word b (inl is) = ip_bytes word b.address is.0
block_bytes word b (inr is) =
    subst (λ (l : List ℕ). list_all is_word_byte l ≡ true) (sym is.2)
    (joined is.1 (47 ∷ decimal b.bits) (ip_bytes is.1 b.address is.3) (decimal_bytes b.bits (few_bits b.address b.bits is.4)))

-- ---- an address has some byte

dotted_some : (text octets : List ℕ) → IsDotted text octets → is_empty text ≡ false
dotted_some text octets is =
    let dot : List ℕ = codes "." in
    let front : List ℕ = decimal is.a ++ dot ++ decimal is.b ++ dot ++ decimal is.c in
    subst (λ (l : List ℕ). is_empty l ≡ false) (sym is.spelled) (some_front (front ++ dot) (decimal is.d) (some_back front dot refl))

groups_some : (ipv4 : Bool) (lead text : List ℕ) (s : ℕ) (segments : List ℕ) → IsGroupsAfter ipv4 lead text (s ∷ segments) → is_empty text ≡ false
groups_some ipv4 lead text s segments (inl is) =
    subst (λ (l : List ℕ). is_empty l ≡ false) (sym is.2) (some_front (lead ++ is.0) is.1 (some_back lead is.0 (some_length is.0 is.3.0.0.0)))
groups_some ipv4 lead text s segments (inr is) =
    subst (λ (l : List ℕ). is_empty l ≡ false) (sym is.3) (some_back lead is.0 (dotted_some is.0 is.1 is.4))

colon_some : (text segments : List ℕ) → IsColonHex text segments → is_empty text ≡ false
colon_some text [] (inl is) = let none = is.1 in absurd (omega (arith, none))
colon_some text (s ∷ segments) (inl is) = groups_some true [] text s segments is.0
colon_some text segments (inr is) =
    subst (λ (l : List ℕ). is_empty l ≡ false) (sym is.spelled) (some_front (is.head_text ++ codes "::") is.tail_text (some_back is.head_text (codes "::") refl))

ip_some : (text : List ℕ) (ip : IpAddr) → IsIpText text ip → is_empty text ≡ false
ip_some text (V4 a) is = dotted_some text _ is
ip_some text (V6 a) is = colon_some text _ is

block_some : (word : List ℕ) (b : Block) → IsWord word b → is_empty word ≡ false
block_some word b (inl is) = ip_some word b.address is.0
block_some word b (inr is) = subst (λ (l : List ℕ). is_empty l ≡ false) (sym is.2) (some_back is.1 (47 ∷ decimal b.bits) refl)

-- a test that each address and block passes is passed by a word that is tested to be one
decided : (test : List ℕ → Bool) → ((word : List ℕ) (b : Block) → IsWord word b → test word ≡ true) → (word : List ℕ) → is_address_word word ≡ true → test word ≡ true
decided test passes word is = elim (cases_Bool (test word)) [
  | inl yes_it ↦ yes_it
  | inr no_it ↦ absurd (false≢true (word_is word None (λ b h. false≢true (sym no_it ∙ passes word b h)) ∙ is))
]

pub address_bytes : (word : List ℕ) → is_address_word word ≡ true → list_all is_word_byte word ≡ true
address_bytes word is = decided (list_all is_word_byte) block_bytes word is

pub address_some : (word : List ℕ) → is_address_word word ≡ true → is_empty word ≡ false
address_some word is =
    not-true (is_empty word) (decided (λ text. not (is_empty text)) (λ text b h. not_from_false (is_empty text) (block_some text b h)) word is)

-- ---- ranges

number_digits : (text : List ℕ) → is_number text ≡ true → list_all is_digit text ≡ true
number_digits [] h = refl
number_digits (b ∷ []) h = and_from (is_digit b) true h refl
number_digits (b ∷ c ∷ rest) h =
    (and_parts (not (b == 48)) (list_all is_digit (b ∷ c ∷ rest)) (and_parts (not (b == 48) && list_all is_digit (b ∷ c ∷ rest)) (nat_lt (length (c ∷ rest)) 10) h).0).1

in_digits : (text : List ℕ) (o : Option ℕ) → byte_of text ≡ o → is_some o ≡ true → list_all is_digit text ≡ true
in_digits text o e some = by_number (is_number text) refl
  where
    by_number : (p : Bool) → is_number text ≡ p → list_all is_digit text ≡ true
    by_number true is = number_digits text is
    by_number false is = absurd (false≢true (sym (ap is_some (sym e ∙ none is)) ∙ some))
      where
        none : is_number text ≡ false → byte_of text ≡ None
        none is = rw is refl

order_digits : (first last : List ℕ) (o p : Option ℕ) → byte_of first ≡ o → byte_of last ≡ p → in_order o p ≡ true → (list_all is_digit first ≡ true) × (list_all is_digit last ≡ true)
order_digits first last (Some m) (Some n) e f h = (in_digits first (Some m) e refl, in_digits last (Some n) f refl)
order_digits first last (Some m) None e f h = absurd (false≢true h)
order_digits first last None None e f h = absurd (false≢true h)
order_digits first last None (Some n) e f h = absurd (false≢true h)

-- the first byte, if there is one
abbrev Begins : (ℕ → Bool) → List ℕ → Type 0
Begins p [] = Unit {0}
Begins p (b ∷ rest) = p b ≡ true

pub begins_at : (p : ℕ → Bool) (text : List ℕ) → Begins p (drop (position_or_len p text) text)
begins_at p [] = tt
begins_at p (b ∷ text) = elim (cases_Bool (p b)) [
  | inl is ↦ subst (λ n. Begins p (drop n (b ∷ text))) (sym (here p b text is)) is
  | inr not_is ↦ subst (λ n. Begins p (drop n (b ∷ text))) (sym (one_more p b text not_is)) (begins_at p text)
]

range_ends : (first rest : List ℕ) → Begins (λ b. b == 45) rest → ends_in_order first rest ≡ true → list_all is_word_byte (first ++ rest) ≡ true
range_ends first [] dash h = joined first [] (digit_bytes first (order_digits first first (byte_of first) (byte_of first) refl refl h).0) refl
range_ends first (dash ∷ last) is h =
    let parts = order_digits first last (byte_of first) (byte_of last) refl refl h in
    joined first (dash ∷ last) (digit_bytes first parts.0)
    (and_from (is_word_byte dash) (list_all is_word_byte last) (ap is_word_byte (eqb-true dash 45 is)) (digit_bytes last parts.1))

pub range_bytes : (word : List ℕ) → is_range word ≡ true → list_all is_word_byte word ≡ true
range_bytes word is =
    let n : ℕ = to_byte 45 word in
    subst (λ (l : List ℕ). list_all is_word_byte l ≡ true) (take-append-drop n word) (range_ends (take n word) (drop n word) (begins_at (λ b. b == 45) word) is)
