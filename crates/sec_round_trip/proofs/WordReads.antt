-- The words of an operator that were read are read back from their own text.
use Rattle.std.proofs.Common.{◌≡◌, ℕ, zero, suc, ◌+◌, ◌-◌, ◌*◌, ◌%◌, ◌<◌, Bool, true, false, cond, List, [], ◌∷◌, length, take, drop, Option, Some, None, Result, Ok, Err, refl, sym, arith, subst, inl, inr}
use Rattle.std.specs.Prelude.{◌&&◌, ◌==◌, nat_le, nat_lt}
use Rattle.std.specs.List.{AllByRecursion, concat, list_all, list_any, position_or_len, prefix_len}
use Rattle.std.proofs.lemmas.Bool.{and_from, and_parts, cases_Bool, false≢true, leb-true, lt-ltb}
use Rattle.hex.specs.Hex.{decode_of, decode_pairs, digit_or_error, hex_digit_value, pair_value, value_at}
use Rattle.hex.specs.Hex as hex
use Rattle.hex.specs.declared.error.FromHexError.{FromHexError}
use Rattle.hex.specs.declared.error.FromHexError.TheVariants.{OddLength}
use Rattle.sec_text.specs.Quotes.{is_blank}
use Rattle.sec_text.specs.Readers.{repeat}
use Rattle.sec_parts.specs.declared.faults.Bad.{Bad}
use Rattle.sec_parts.specs.Results.{bad}
use Rattle.sec_parts.specs.Phrases.{decoded, hex_bytes, is_parting, is_range, next_word, phrase, phrase_part, phrases_of, range, ranges_of, up_to_bar, with_rest, word_here, words_of}
use Rattle.sec_parts.specs.Texts.{to_byte}
use Rattle.sec_round_trip.specs.Operators.{IsPhrase, IsRange}
use Rattle.sec_round_trip.specs.Targets.{is_empty}
use Rattle.sec_round_trip.proofs.FineTexts.{all_append}
use Rattle.sec_parts.proofs.Given.{Given, GivesNext, GivesSome, SomeAll, given_all, given_bind, given_first, given_if}
use Rattle.sec_round_trip.proofs.MacroReads.{before_first}
use Rattle.sec_round_trip.proofs.Somes.{some_front}
use Rattle.sec_round_trip.proofs.Names.{more_prefix, no_prefix}
use Rattle.sec_round_trip.proofs.Places.{one_more}

-- ---- parts of a text of bytes

abbrev pub AreBytes : List ℕ → Type 0
AreBytes text = list_all (λ b. nat_lt b 256) text ≡ true

pub bytes_take : (n : ℕ) (text : List ℕ) → AreBytes text → AreBytes (take n text)
bytes_take zero text h = refl
bytes_take (suc n) [] h = refl
bytes_take (suc n) (b ∷ text) h =
    let parts = and_parts (nat_lt b 256) (list_all (λ b. nat_lt b 256) text) h in
    and_from (nat_lt b 256) (list_all (λ b. nat_lt b 256) (take n text)) parts.0 (bytes_take n text parts.1)

pub bytes_drop : (n : ℕ) (text : List ℕ) → AreBytes text → AreBytes (drop n text)
bytes_drop zero text h = h
bytes_drop (suc n) [] h = refl
bytes_drop (suc n) (b ∷ text) h = bytes_drop n text (and_parts (nat_lt b 256) (list_all (λ b. nat_lt b 256) text) h).1

-- ---- words that are parted

-- behind a front that passes
abbrev pub StopsAt : (ℕ → Bool) → List ℕ → Type 0
StopsAt p [] = Unit {0}
StopsAt p (b ∷ rest) = p b ≡ false

pub after_front : (p : ℕ → Bool) (text : List ℕ) → StopsAt p (drop (prefix_len p text) text)
after_front p [] = tt
after_front p (b ∷ text) = elim (cases_Bool (p b)) [
  | inl is ↦ subst (λ n. StopsAt p (drop n (b ∷ text))) (sym (more_prefix p b text is)) (after_front p text)
  | inr not_is ↦ subst (λ n. StopsAt p (drop n (b ∷ text))) (sym (no_prefix p b text not_is)) not_is
]

some_cut : (p : ℕ → Bool) (b : ℕ) (text : List ℕ) → p b ≡ false → is_empty (take (position_or_len p (b ∷ text)) (b ∷ text)) ≡ false
some_cut p b text h = subst (λ n. is_empty (take n (b ∷ text)) ≡ false) (sym (one_more p b text h)) refl

module _ (parts : ℕ → Bool) (make : List ℕ → Result (List ℕ) Bad) (P : List ℕ → Type 0)
    (made : (word : List ℕ) → is_empty word ≡ false → list_any parts word ≡ false → AreBytes word → Given P (make word)) where
  rest_gives : (rest : List ℕ) (r : Result (List ℕ) Bad) → AreBytes rest → Given P r → GivesNext P AreBytes (with_rest rest r)
  rest_gives rest (Ok word) bytes h = (h, bytes)
  rest_gives rest (Err e) bytes h = tt

  here_gives : (text : List ℕ) → StopsAt parts text → AreBytes text → GivesNext P AreBytes (word_here parts make text)
  here_gives [] stops bytes = tt
  here_gives (b ∷ text) stops bytes =
      let whole : List ℕ = b ∷ text in
      let n : ℕ = position_or_len parts whole in
      rest_gives (drop n whole) (make (take n whole)) (bytes_drop n whole bytes) (made (take n whole) (some_cut parts b text stops) (before_first parts whole) (bytes_take n whole bytes))

  next_gives : (text : List ℕ) → AreBytes text → GivesNext P AreBytes (next_word parts make text)
  next_gives text bytes = here_gives (drop (prefix_len parts text) text) (after_front parts text) (bytes_drop (prefix_len parts text) text bytes)

  words_give : (text : List ℕ) → AreBytes text → Given (AllByRecursion P) (words_of parts make text)
  words_give text bytes = given_all P AreBytes (next_word parts make) next_gives (suc (length text)) text bytes

-- ---- ranges

range_gives : (word : List ℕ) → is_empty word ≡ false → list_any is_parting word ≡ false → AreBytes word → Given IsRange (range word)
unfolding range
range_gives word some none bytes = given_if IsRange (is_range word) (Ok word) (bad word) (λ is. ((some, none), is)) (λ not_is. tt)

pub ranges_give : (text : List ℕ) → AreBytes text → Given (AllByRecursion IsRange) (ranges_of text)
unfolding ranges_of range
ranges_give text bytes = words_give is_parting range IsRange range_gives text bytes

-- ---- bytes between bars

hex_bind : {A B : Type 0} (P : A → Type 0) (Q : B → Type 0) (r : Result A FromHexError) (f : A → Result B FromHexError) → Given P r → ((x : A) → P x → Given Q (f x)) → Given Q (hex.◌>>=◌ r f)
hex_bind P Q (Ok x) f h more = more x h
hex_bind P Q (Err e) f h more = tt

abbrev IsDigit : Option ℕ → Type 0
IsDigit None = Unit {0}
IsDigit (Some v) = v < 16

digit_if : (c : ℕ) (p q r s t u : Bool) → nat_le 65 c ≡ p → nat_le c 70 ≡ q → nat_le 97 c ≡ r → nat_le c 102 ≡ s → nat_le 48 c ≡ t → nat_le c 57 ≡ u
    → IsDigit (cond (p && q) (Some (c - 55)) (cond (r && s) (Some (c - 87)) (cond (t && u) (Some (c - 48)) None)))
digit_if c true true r s t u e1 e2 e3 e4 e5 e6 = let high = leb-true c 70 e2 in omega (arith, high)
digit_if c true false true true t u e1 e2 e3 e4 e5 e6 = let high = leb-true c 102 e4 in omega (arith, high)
digit_if c false q true true t u e1 e2 e3 e4 e5 e6 = let high = leb-true c 102 e4 in omega (arith, high)
digit_if c true false true false true true e1 e2 e3 e4 e5 e6 = let high = leb-true c 57 e6 in omega (arith, high)
digit_if c true false false s true true e1 e2 e3 e4 e5 e6 = let high = leb-true c 57 e6 in omega (arith, high)
digit_if c false q true false true true e1 e2 e3 e4 e5 e6 = let high = leb-true c 57 e6 in omega (arith, high)
digit_if c false q false s true true e1 e2 e3 e4 e5 e6 = let high = leb-true c 57 e6 in omega (arith, high)
digit_if c true false true false true false e1 e2 e3 e4 e5 e6 = tt
digit_if c true false true false false u e1 e2 e3 e4 e5 e6 = tt
digit_if c true false false s true false e1 e2 e3 e4 e5 e6 = tt
digit_if c true false false s false u e1 e2 e3 e4 e5 e6 = tt
digit_if c false q true false true false e1 e2 e3 e4 e5 e6 = tt
digit_if c false q true false false u e1 e2 e3 e4 e5 e6 = tt
digit_if c false q false s true false e1 e2 e3 e4 e5 e6 = tt
digit_if c false q false s false u e1 e2 e3 e4 e5 e6 = tt

digit_small : (c : ℕ) → IsDigit (hex_digit_value c)
digit_small c = digit_if c (nat_le 65 c) (nat_le c 70) (nat_le 97 c) (nat_le c 102) (nat_le 48 c) (nat_le c 57) refl refl refl refl refl refl

error_gives : (c i : ℕ) (o : Option ℕ) → IsDigit o → Given (λ v. v < 16) (digit_or_error c i o)
error_gives c i None h = tt
error_gives c i (Some v) h = h

value_gives : (c i : ℕ) → Given (λ v. v < 16) (value_at c i)
value_gives c i = error_gives c i (hex_digit_value c) (digit_small c)

pair_gives : (high low i : ℕ) → Given (λ n. n < 256) (pair_value high low i)
pair_gives high low i =
    hex_bind (λ v. v < 16) (λ n. n < 256) (value_at high i) (λ h. hex.◌>>=◌ (value_at low (i + 1)) (λ l. Ok (h * 16 + l))) (value_gives high i) (λ h small-h.
    hex_bind (λ v. v < 16) (λ n. n < 256) (value_at low (i + 1)) (λ l. Ok (h * 16 + l)) (value_gives low (i + 1)) (λ l small-l. omega (arith, small-h, small-l)))

-- at least a byte for some digits
abbrev FromDigits : List ℕ → List ℕ → Type 0
FromDigits digits bytes = (is_empty digits ≡ false → is_empty bytes ≡ false) × AreBytes bytes

pairs_give : (i : ℕ) (digits : List ℕ) → Given (FromDigits digits) (decode_pairs i digits)
unfolding decode_pairs
pairs_give i [] = (λ h. h, refl)
pairs_give i (digit ∷ []) = tt
pairs_give i (high ∷ low ∷ rest) =
    hex_bind (λ n. n < 256) (FromDigits (high ∷ low ∷ rest)) (pair_value high low i) (λ byte. hex.◌>>=◌ (decode_pairs (i + 2) rest) (λ bytes. Ok (byte ∷ bytes))) (pair_gives high low i) (λ byte small.
    hex_bind (FromDigits rest) (FromDigits (high ∷ low ∷ rest)) (decode_pairs (i + 2) rest) (λ bytes. Ok (byte ∷ bytes)) (pairs_give (i + 2) rest)
    (λ bytes are. (λ h. refl, and_from (nat_lt byte 256) (list_all (λ b. nat_lt b 256) bytes) (lt-ltb byte 256 small) are.1)))

even_gives : (p : Bool) (e : FromHexError) (digits : List ℕ) → Given (FromDigits digits) (cond p (Err e) (decode_pairs 0 digits))
even_gives true e digits = tt
even_gives false e digits = pairs_give 0 digits

decode_gives : (digits : List ℕ) → Given (FromDigits digits) (decode_of digits)
unfolding decode_pairs
decode_gives digits = even_gives (length digits % 2 == 1) OddLength digits

-- ---- phrases

abbrev IsPiece : List ℕ → Type 0
IsPiece piece = (is_empty piece ≡ false) × AreBytes piece

decoded_gives : (whole digits : List ℕ) (r : Result (List ℕ) FromHexError) → is_empty digits ≡ false → Given (FromDigits digits) r → Given IsPiece (decoded whole r)
decoded_gives whole digits (Ok bytes) some h = (h.0 some, h.1)
decoded_gives whole digits (Err e) some h = tt

hex_gives : (whole digits : List ℕ) → Given IsPiece (hex_bytes whole digits)
hex_gives whole [] = tt
hex_gives whole (b ∷ digits) = decoded_gives whole (b ∷ digits) (decode_of (b ∷ digits)) refl (decode_gives (b ∷ digits))

piece_rest : (rest : List ℕ) (r : Result (List ℕ) Bad) → AreBytes rest → Given IsPiece r → GivesSome IsPiece AreBytes (with_rest rest r)
piece_rest rest (Ok piece) bytes h = (h, bytes)
piece_rest rest (Err e) bytes h = tt

bar_gives : (whole digits rest : List ℕ) → AreBytes rest → GivesSome IsPiece AreBytes (up_to_bar whole digits rest)
bar_gives whole digits [] bytes = tt
bar_gives whole digits (bar ∷ rest) bytes = piece_rest rest (hex_bytes whole digits) (and_parts (nat_lt bar 256) (list_all (λ b. nat_lt b 256) rest) bytes).1 (hex_gives whole digits)

part_if : (whole : List ℕ) (b : ℕ) (rest : List ℕ) (p : Bool) → (b == 124) ≡ p → AreBytes (b ∷ rest)
    → GivesSome IsPiece AreBytes (cond p (up_to_bar whole (take (to_byte 124 rest) rest) (drop (to_byte 124 rest) rest)) (Ok (Some (take (to_byte 124 (b ∷ rest)) (b ∷ rest), drop (to_byte 124 (b ∷ rest)) (b ∷ rest)))))
part_if whole b rest true is bytes =
    bar_gives whole (take (to_byte 124 rest) rest) (drop (to_byte 124 rest) rest) (bytes_drop (to_byte 124 rest) rest (and_parts (nat_lt b 256) (list_all (λ b. nat_lt b 256) rest) bytes).1)
part_if whole b rest false is bytes =
    let n : ℕ = to_byte 124 (b ∷ rest) in
    ((some_cut (λ c. c == 124) b rest is, bytes_take n (b ∷ rest) bytes), bytes_drop n (b ∷ rest) bytes)

part_some : (whole : List ℕ) (b : ℕ) (rest : List ℕ) → AreBytes (b ∷ rest) → GivesSome IsPiece AreBytes (phrase_part whole (b ∷ rest))
unfolding phrase_part
part_some whole b rest bytes = part_if whole b rest (b == 124) refl bytes

next_of_some : (r : Result (Option (List ℕ × List ℕ)) Bad) → GivesSome IsPiece AreBytes r → GivesNext IsPiece AreBytes r
next_of_some (Ok None) h = absurd h
next_of_some (Ok (Some x)) h = h
next_of_some (Err e) h = tt

part_gives : (whole text : List ℕ) → AreBytes text → GivesNext IsPiece AreBytes (phrase_part whole text)
unfolding phrase_part
part_gives whole [] bytes = tt
part_gives whole (b ∷ rest) bytes = next_of_some (phrase_part whole (b ∷ rest)) (part_some whole b rest bytes)

all_bytes : (pieces : List (List ℕ)) → AllByRecursion IsPiece pieces → AreBytes (concat pieces)
all_bytes [] are = refl
all_bytes (piece ∷ pieces) are = all_append (λ b. nat_lt b 256) piece (concat pieces) are.0.1 (all_bytes pieces are.1)

joined_phrase : (pieces : List (List ℕ)) → SomeAll IsPiece pieces → IsPhrase (concat pieces)
joined_phrase [] are = absurd are
joined_phrase (piece ∷ pieces) are = (some_front piece (concat pieces) are.0.0, all_bytes (piece ∷ pieces) are)

phrase_gives : (word : List ℕ) → is_empty word ≡ false → list_any is_blank word ≡ false → AreBytes word → Given IsPhrase (phrase word)
unfolding phrase phrase_part
phrase_gives [] some none bytes = absurd (false≢true (sym some))
phrase_gives (b ∷ rest) some none bytes =
    let word : List ℕ = b ∷ rest in
    given_bind (SomeAll IsPiece) IsPhrase (repeat (phrase_part word) (suc (length word)) word) (λ pieces. Ok (concat pieces))
    (given_first IsPiece AreBytes (repeat (phrase_part word) (length word)) (given_all IsPiece AreBytes (phrase_part word) (part_gives word) (length word)) (phrase_part word word) (part_some word b rest bytes))
    joined_phrase

pub phrases_give : (text : List ℕ) → AreBytes text → Given (AllByRecursion IsPhrase) (phrases_of text)
unfolding phrases_of phrase phrase_part
phrases_give text bytes = words_give is_blank phrase IsPhrase phrase_gives text bytes
