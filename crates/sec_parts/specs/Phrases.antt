-- The words of an operator: phrases, addresses and ranges of bytes.
use Rattle.std.specs.Prelude.{ℕ, suc, ◌==◌, Bool, false, ◌||◌, nat_le, List, [], ◌∷◌, length, take, drop, Option, Some, None, Result, Ok, Err, if◌then◌else◌}
use Rattle.std.specs.List.{concat, position_or_len, prefix_len}
use Rattle.hex.specs.Hex.{decode_of}
use Rattle.hex.specs.declared.error.FromHexError.{FromHexError}
use Rattle.sec_text.specs.Quotes.{is_blank}
use Rattle.sec_text.specs.Readers.{repeat}
use Rattle.sec_text.specs.declared.characters.TheConstants.{BAR, COMMA, MINUS}
use Rattle.sec_parts.specs.declared.faults.Bad.{Bad}
use Rattle.sec_parts.specs.declared.limits.TheConstants.{MAX_BYTE}
use Rattle.sec_parts.specs.Results.{◌>>=◌, bad}
use Rattle.sec_parts.specs.Numbers.{number_in}
use Rattle.sec_parts.specs.Texts.{to_byte}

-- ---- words that are parted by runs of separators

abbrev pub Read : Type 0
Read = Result (Option (List ℕ × List ℕ)) Bad

abbrev pub with_rest : List ℕ → Result (List ℕ) Bad → Read
with_rest rest (Ok word) = Ok (Some (word, rest))
with_rest rest (Err fault) = Err fault

abbrev pub word_here : (ℕ → Bool) → (List ℕ → Result (List ℕ) Bad) → List ℕ → Read
word_here parts make [] = Ok None
word_here parts make (b ∷ text) =
    let end = position_or_len parts (b ∷ text) in with_rest (drop end (b ∷ text)) (make (take end (b ∷ text)))

-- the next word, behind separators, and what is made of it
abbrev pub next_word : (ℕ → Bool) → (List ℕ → Result (List ℕ) Bad) → List ℕ → Read
next_word parts make text = word_here parts make (drop (prefix_len parts text) text)

abbrev pub words_of : (ℕ → Bool) → (List ℕ → Result (List ℕ) Bad) → List ℕ → Result (List (List ℕ)) Bad
words_of parts make text = repeat (next_word parts make) (suc (length text)) text

-- ---- phrases: in a phrase | opens and the next | closes pairs of hexadecimal digits

-- pairs of hexadecimal digits, at least one
abbrev pub decoded : List ℕ → Result (List ℕ) FromHexError → Result (List ℕ) Bad
decoded whole (Ok bytes) = Ok bytes
decoded whole (Err e) = bad whole

abbrev pub hex_bytes : List ℕ → List ℕ → Result (List ℕ) Bad
hex_bytes whole [] = bad whole
hex_bytes whole (b ∷ digits) = decoded whole (decode_of (b ∷ digits))

-- digits up to the next |
abbrev pub up_to_bar : List ℕ → List ℕ → List ℕ → Read
up_to_bar whole digits [] = bad whole
up_to_bar whole digits (bar ∷ rest) = with_rest rest (hex_bytes whole digits)

-- what a phrase goes on with: bytes up to a |, or those that digits between two of them stand for
unfoldable pub phrase_part : List ℕ → List ℕ → Read
phrase_part whole [] = Ok None
phrase_part whole (b ∷ rest) =
    if b == BAR then up_to_bar whole (take (to_byte BAR rest) rest) (drop (to_byte BAR rest) rest)
    else Ok (Some (take (to_byte BAR (b ∷ rest)) (b ∷ rest), drop (to_byte BAR (b ∷ rest)) (b ∷ rest)))

unfoldable pub phrase : List ℕ → Result (List ℕ) Bad
phrase word = repeat (phrase_part word) (suc (length word)) word >>= λ pieces. Ok (concat pieces)

unfoldable pub phrases_of : List ℕ → Result (List (List ℕ)) Bad
phrases_of argument = words_of is_blank phrase argument

-- ---- addresses and ranges, parted by commas and blanks

abbrev pub is_parting : ℕ → Bool
is_parting b = is_blank b || (b == COMMA)

abbrev pub as_it_is : List ℕ → Result (List ℕ) Bad
as_it_is word = Ok word

unfoldable pub addresses_of : List ℕ → Result (List (List ℕ)) Bad
addresses_of argument = words_of is_parting as_it_is argument

-- the number of a byte, or two joined by - of which the first is not greater
abbrev pub byte_of : List ℕ → Option ℕ
byte_of text = number_in 0 MAX_BYTE text

abbrev pub in_order : Option ℕ → Option ℕ → Bool
in_order (Some first) (Some last) = nat_le first last
in_order first None = false
in_order None last = false

abbrev pub ends_in_order : List ℕ → List ℕ → Bool
ends_in_order first [] = in_order (byte_of first) (byte_of first)
ends_in_order first (dash ∷ last) = in_order (byte_of first) (byte_of last)

abbrev pub is_range : List ℕ → Bool
is_range word = ends_in_order (take (to_byte MINUS word) word) (drop (to_byte MINUS word) word)

unfoldable pub range : List ℕ → Result (List ℕ) Bad
range word = if is_range word then Ok word else bad word

unfoldable pub ranges_of : List ℕ → Result (List (List ℕ)) Bad
ranges_of argument = words_of is_parting range argument
