-- Logical lines that are being joined. (For private contracts.)
use Rattle.std.specs.Prelude.{ℕ, ◌+◌, length, true, false, List, [], ◌++◌, Option, Some, None}
use Rattle.std.specs.List.{slice_split}
use Rattle.sec_text.specs.declared.line.Line.{Line}
use Rattle.sec_text.specs.declared.lines.Joining.{Joining}
use Rattle.sec_text.specs.Lines.{text_here, before, lines_in, is_line_feed}

-- the lines so far, and what an open line and those that begin in further physical lines make
abbrev pub with_open : Option Line → List (ℕ × List ℕ) → List Line
with_open None ps = lines_in false ps
with_open (Some line) ps = before line.number (line.text ++ text_here ps) (lines_in true ps)

abbrev pub made : Joining → List (ℕ × List ℕ) → List Line
made joining ps = joining.lines ++ with_open joining.begun ps

-- the parts of a text that may be missing
abbrev pub parts : Option (List ℕ) → List (List ℕ)
parts None = []
parts (Some text) = slice_split is_line_feed text

-- how much is left to do
abbrev pub left : Option (List ℕ) → ℕ
left None = 0
left (Some text) = 1 + length text
