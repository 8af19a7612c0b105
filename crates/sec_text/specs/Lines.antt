-- The logical lines of a text.
use Rattle.std.specs.Prelude.{◌≡◌, ℕ, ◌+◌, ◌-◌, ◌==◌, Bool, true, false, ◌||◌, nat_lt, List, [], ◌∷◌, ◌++◌, length, take, drop, map, slice_index, Option, Some, None, Result, Ok, Err, if◌then◌else◌}
use Rattle.std.specs.List.{prefix_len, suffix_len, slice_split, enumerate_from, count_by, find}
use Rattle.std.specs.Str.{is_utf8}
use Rattle.std.specs.Str.Lossy.{utf8_valid_len}
use Rattle.sec_text.specs.declared.line.Line.{Line}
use Rattle.sec_text.specs.declared.faults.TextFault.{TextFault}
use Rattle.sec_text.specs.declared.faults.TextFault.TheVariants as faults
use Rattle.sec_text.specs.declared.characters.TheConstants.{BACKSLASH, CARRIAGE_RETURN, HASH, LINE_FEED}
use Rattle.sec_text.specs.declared.lines.TheConstants.{LINE_LIMIT}
use Rattle.sec_text.specs.Quotes.{is_blank}

-- ---- physical lines: parted by LF, trimmed, with their numbers from 1 on

abbrev pub is_trimmed : ℕ → Bool
is_trimmed b = is_blank b || (b == CARRIAGE_RETURN)

abbrev pub trim_end : List ℕ → List ℕ
trim_end text = take (length text - suffix_len is_trimmed text) text

abbrev pub trim : List ℕ → List ℕ
trim text = trim_end (drop (prefix_len is_trimmed text) text)

abbrev pub is_line_feed : ℕ → Bool
is_line_feed b = b == LINE_FEED

abbrev pub physical_from : ℕ → List (List ℕ) → List (ℕ × List ℕ)
physical_from number parts = enumerate_from number (map trim parts)

abbrev pub physical : List ℕ → List (ℕ × List ℕ)
physical text = physical_from 1 (slice_split is_line_feed text)

-- ---- logical lines

-- a physical line goes on where it ends with \
abbrev pub goes_on : List ℕ → Bool
goes_on text = slice_index text (length text - 1) == BACKSLASH

-- where it goes on, that \ is dropped and further text follows directly
abbrev pub joined : List ℕ → List ℕ → List ℕ
joined text more = if goes_on text then take (length text - 1) text ++ more else text

-- the text of a logical line that these physical lines begin with
abbrev pub text_here : List (ℕ × List ℕ) → List ℕ
text_here [] = []
text_here (p ∷ ps) = joined p.1 (text_here ps)

-- an empty line, or one that begins with #
abbrev pub is_passed : List ℕ → Bool
is_passed [] = true
is_passed (b ∷ rest) = b == HASH

-- a logical line before others, where it is not empty
abbrev pub before : ℕ → List ℕ → List Line → List Line
before number [] lines = lines
before number (b ∷ text) lines = record { number = number; text = b ∷ text } ∷ lines

-- the logical lines that begin in these physical lines; is_open: a line that began before them goes on into them
abbrev pub lines_in : Bool → List (ℕ × List ℕ) → List Line
lines_in is_open [] = []
lines_in true (p ∷ ps) = lines_in (goes_on p.1) ps
lines_in false (p ∷ ps) =
    if is_passed p.1 then lines_in false ps
    else before p.0 (text_here (p ∷ ps)) (lines_in (goes_on p.1) ps)

abbrev pub logical : List ℕ → List Line
logical text = lines_in false (physical text)

-- ---- the answer

abbrev pub is_too_long : Line → Bool
is_too_long line = nat_lt LINE_LIMIT (length line.text)

abbrev pub first_long : List Line → Option Line
first_long lines = find is_too_long lines

abbrev pub measured : Option Line → List Line → Result (List Line) TextFault
measured None lines = Ok lines
measured (Some line) lines = Err (faults.TooLong line.number)

-- the line of the first byte that begins no character
abbrev pub fault_line : List ℕ → ℕ
fault_line text = count_by is_line_feed (take (utf8_valid_len text) text) + 1

unfoldable pub lines_of : List ℕ → Result (List Line) TextFault
lines_of text = if is_utf8 text then measured (first_long (logical text)) (logical text)
    else Err (faults.NotText (fault_line text))

-- What a call answers, but for want of memory.
abbrev pub AnswersLines : List ℕ → Result (List Line) TextFault → Type 0
AnswersLines text (Err faults.NoMemory) = Unit {0}
AnswersLines text (Err (faults.NotText line)) = lines_of text ≡ Err (faults.NotText line)
AnswersLines text (Err (faults.TooLong line)) = lines_of text ≡ Err (faults.TooLong line)
AnswersLines text (Ok lines) = lines_of text ≡ Ok lines
