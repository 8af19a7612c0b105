-- What is cut off at the ends of a text.
use Rattle.std.specs.Prelude.{ℕ, ◌-◌, Bool, List, length, take}
use Rattle.std.specs.List.{suffix_len}
use Rattle.sec_text.specs.declared.margins.Margin.{Margin}
use Rattle.sec_text.specs.declared.margins.Margin.TheVariants as margins
use Rattle.sec_text.specs.Lines.{is_trimmed}
use Rattle.sec_text.specs.Quotes.{is_blank}

abbrev pub in_margin : Margin → ℕ → Bool
in_margin margins.Blanks = is_blank
in_margin margins.BlanksAndReturns = is_trimmed

-- a text up to the last byte of which this does not hold
abbrev pub without_end : (ℕ → Bool) → List ℕ → List ℕ
without_end is_cut text = take (length text - suffix_len is_cut text) text
