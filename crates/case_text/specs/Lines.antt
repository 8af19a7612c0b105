-- The lines of a case file that are cases.
use Rattle.std.specs.Prelude.{ℕ, ◌==◌, Bool, true, false, List, [], ◌∷◌, length, if◌then◌else◌}
use Rattle.std.specs.List.{filter, slice_split}
use Rattle.case_text.specs.declared.lines.TheConstants.{HASH, LINE_FEED}

abbrev pub is_line_feed : ℕ → Bool
is_line_feed b = b == LINE_FEED

-- a line that is not empty and is no comment
abbrev pub is_case : List ℕ → Bool
is_case [] = false
is_case (b ∷ rest) = if b == HASH then false else true

abbrev pub case_count : List ℕ → ℕ
case_count content = length (filter is_case (slice_split is_line_feed content))
