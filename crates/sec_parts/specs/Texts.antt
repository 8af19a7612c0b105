-- Blanks and ends of texts, and names without regard to case.
use Rattle.std.specs.Prelude.{ℕ, ◌-◌, ◌==◌, Bool, ◌&&◌, ◌||◌, nat_le, List, [], ◌∷◌, length, take, drop, slice_index, Option, Some, None}
use Rattle.std.specs.List.{position_or_len, prefix_len, suffix_len}
use Rattle.std.specs.Str.{str_eq_ignore_ascii_case}
use Rattle.sec_text.specs.Quotes.{is_blank}
use Rattle.sec_text.specs.declared.characters.TheConstants.{BACKSLASH}

abbrev pub skip_blanks : List ℕ → List ℕ
skip_blanks text = drop (prefix_len is_blank text) text

abbrev pub trim_end : List ℕ → List ℕ
trim_end text = take (length text - suffix_len is_blank text) text

abbrev pub trim : List ℕ → List ℕ
trim text = trim_end (skip_blanks text)

-- how many bytes stand before the first of this value, or of these two, or all
abbrev pub to_byte : ℕ → List ℕ → ℕ
to_byte byte text = position_or_len (λ b. b == byte) text

abbrev pub to_either : ℕ → ℕ → List ℕ → ℕ
to_either one other text = position_or_len (λ b. (b == one) || (b == other)) text

-- it ends with \
abbrev pub ends_open : List ℕ → Bool
ends_open text = slice_index text (length text - 1) == BACKSLASH

-- behind a comma or a bar the next piece begins, also an empty one
abbrev pub behind_first : List ℕ → Option (List ℕ)
behind_first [] = None
behind_first (b ∷ rest) = Some rest

-- the piece that stands before what is left, without blanks around it
abbrev pub piece_before : List ℕ → List ℕ → List ℕ
piece_before text rest = trim (take (length text - length rest) text)

-- a word begins with this name, without regard to case
abbrev pub begins_named : List ℕ → List ℕ → Bool
begins_named beginning word =
    nat_le (length beginning) (length word) && str_eq_ignore_ascii_case (take (length beginning) word) beginning
