-- The tokens outside of classes.
use Rattle.std.specs.Prelude.{ℕ, ◌+◌, ◌==◌, ◌&&◌, ◌||◌, List, [], ◌∷◌, drop, Option, Some, None, if◌then◌else◌}
use Rattle.std.specs.List.{prefix_len}
use Rattle.std.specs.Option.{option_map}
use Rattle.pattern_text.specs.Texts.{begins, begins_among, digit_count, is_among}
use Rattle.pattern_text.specs.Escapes.{escaped}
use Rattle.pattern_text.specs.Words.{Word, kept, as_byte, class_text, line_end}
use Rattle.std.specs.Char.{is_ascii}
use Rattle.pattern_text.specs.declared.characters.TheConstants.{CLOSING_BRACE, OPENING_BRACE}
use Rattle.pattern_text.specs.declared.place.Place.TheVariants.{Opened, Outside}
use Rattle.pattern_text.specs.declared.place.Set.TheVariants.{Blanks, VerticalSpaces}

unfoldable pub escape : List ℕ → Option Word
escape text =
    if begins_among "dDwWsSbBAz" (drop 1 text) then kept Outside 2 text
    else if begins "\\h" text then Some (record { text = class_text Blanks; takes = 2; next = Outside })
    else if begins "\\v" text then Some (record { text = class_text VerticalSpaces; takes = 2; next = Outside })
    else if begins "\\R" text then Some (record { text = line_end; takes = 2; next = Outside })
    else option_map (λ e. as_byte Outside (1 + e.1) e.0) (escaped (drop 1 text))

-- how many of the flags i, m, s and U, and hyphens, follow `(?`
abbrev pub flag_count : List ℕ → ℕ
flag_count text = prefix_len (is_among "imsU-") (drop 2 text)

-- `(?flags)`, `(?flags:`, `(?P<name>` and `(?<name>`, and no other
unfoldable pub group : List ℕ → Option Word
group text =
    if begins_among ":)" (drop (2 + flag_count text) text) then kept Outside (2 + flag_count text) text
    else if begins "(?P<" text then kept Outside 4 text
    else if begins "(?<=" text || begins "(?<!" text then None
    else if begins "(?<" text then kept Outside 3 text
    else None

-- a repetition of so many bytes: `?` makes it lazy, and `+` possessive
unfoldable pub repetition : ℕ → List ℕ → Option Word
repetition n text =
    if begins "+" (drop n text) then None
    else if begins "?" (drop n text) then kept Outside (n + 1) text
    else kept Outside n text

-- how many bytes `n}`, `n,}` or `n,m}` takes
abbrev pub upper_bound : List ℕ → Option ℕ
upper_bound text =
    if begins "}" text then Some 1
    else if begins "," text && begins "}" (drop (digit_count (drop 1 text)) (drop 1 text))
    then Some (2 + digit_count (drop 1 text))
    else None

abbrev pub bounds : List ℕ → Option ℕ
bounds text =
    if digit_count text == 0 then None
    else option_map (λ n. digit_count text + n) (upper_bound (drop (digit_count text) text))

-- a brace that begins no repetition is a literal
abbrev pub braces : Option ℕ → List ℕ → Option Word
braces None text = Some (as_byte Outside 1 OPENING_BRACE)
braces (Some n) text = repetition (1 + n) text

-- a byte of 128 or more is worded by its number
abbrev pub plain : List ℕ → Option Word
plain [] = None
plain (c ∷ text) = if is_ascii c then kept Outside 1 (c ∷ text) else Some (as_byte Outside 1 c)

unfoldable pub outside : List ℕ → Option Word
outside text =
    if begins "\\" text then escape text
    else if begins "[^" text then kept Opened 2 text
    else if begins "[" text then kept Opened 1 text
    else if begins "(?" text then group text
    else if begins_among "*+?" text then repetition 1 text
    else if begins "{" text then braces (bounds (drop 1 text)) text
    else if begins "}" text then Some (as_byte Outside 1 CLOSING_BRACE)
    else plain text
