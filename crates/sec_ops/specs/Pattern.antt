-- What a rule's pattern means: the first match in a value, with the spans of its groups.
use Rattle.std.specs.Prelude.{ℕ, zero, suc, ◌-◌, List, map, length, take, drop, Option, Some, None, true, false, nat_le, if◌then◌else◌, chars, option_map, option_and_then}
use Rattle.std.specs.List.{range_with_len}
use Rattle.regex_syntax.specs.Verdict.{default_config, default_flags}
use Rattle.regex_syntax.specs.Grammar.{Names, read}
use Rattle.regex_syntax.specs.Brackets.{Nested}
use Rattle.regex.specs.Patterns.{Re, Match, Config, find, span}
use Rattle.regex.specs.Writes.{group_of}

-- the options: over bytes, and `.` takes a line feed too
abbrev pub rule_config : Config
rule_config = record default_config { flags = record default_flags { dot_matches_new_line = true }; utf8 = false }

abbrev pub within_limit : Nested Re × Names → Option (Re × Names)
within_limit p = if nat_le (p.0).depth rule_config.nest_limit then Some ((p.0).value, p.1) else None

-- what the grammar reads in the text, where that nests no deeper than the limit
abbrev pub reading_of : List ℕ → Option (Re × Names)
reading_of source = option_and_then within_limit (read rule_config (chars source))

-- what group k spans, and for 0 the match itself
abbrev pub group_span : Match → ℕ → Option (ℕ × ℕ)
group_span m zero = Some (span m)
group_span m (suc k) = group_of m (suc k)

-- the match and its groups, so many in all
abbrev pub spans_of : ℕ → Match → List (Option (ℕ × ℕ))
spans_of count m = map (group_span m) (range_with_len 0 count)

abbrev pub hit_in : List ℕ → Re × Names → Option (List (Option (ℕ × ℕ)))
hit_in value p = option_map (spans_of (length p.1)) (find p.0 value 0)

-- the groups of the first match of the pattern's text in the value
abbrev pub pattern_hit : List ℕ → List ℕ → Option (List (Option (ℕ × ℕ)))
pattern_hit source value = option_and_then (hit_in value) (reading_of source)

-- the bytes of a span
abbrev pub between : List ℕ → ℕ × ℕ → List ℕ
between value s = take (s.1 - s.0) (drop s.0 value)

-- the texts of the groups that took part
abbrev pub texts_in : List ℕ → List (Option (ℕ × ℕ)) → List (Option (List ℕ))
texts_in value spans = map (option_map (between value)) spans
