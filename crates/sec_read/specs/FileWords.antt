-- Texts that directives name, and the words that an operator takes from one.
use Rattle.std.specs.Prelude.{ℕ, ◌+◌, not, nat_lt, filter, length, map, List, Option, Some, None, Result, Ok, if◌then◌else◌}
use Rattle.std.specs.List.{slice_split}
use Rattle.sec_text.specs.Lines.{is_line_feed, is_passed, trim}
use Rattle.sec_read.specs.declared.faults.Cause.TheVariants as causes
use Rattle.sec_read.specs.declared.faults.Found.{Found}
use Rattle.sec_read.specs.declared.texts.TheConstants.{FILE_LIMIT, TEXT_LIMIT}
use Rattle.sec_read.specs.declared.texts.Text.{Text}
use Rattle.sec_read.specs.Faults.{fault}

-- the content of each file by its name
abbrev pub Named : Type 0
Named = List ℕ → Option (List ℕ)

-- A text that a directive in a file and line names by a word, within the limits of one text and of all.
abbrev pub admitted : List ℕ → ℕ → List ℕ → Option (List ℕ) → ℕ → Result Text Found
admitted file line word None total = fault file line causes.NoFile word
admitted file line word (Some content) total =
    if nat_lt FILE_LIMIT (length content) then fault file line causes.TooLong word
    else (if nat_lt TEXT_LIMIT (total + length content) then fault file line causes.TooLong word
    else Ok (record { content = content; total = total + length content }))

-- each line, without blanks and CR around it, that is not empty and does not begin with #
abbrev pub words_among : List (List ℕ) → List (List ℕ)
words_among lines = filter (λ word. not (is_passed word)) (map trim lines)

abbrev pub words_in : List ℕ → List (List ℕ)
words_in content = words_among (slice_split is_line_feed content)
