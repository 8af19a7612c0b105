use Rattle.std.proofs.Common.{◌≡◌, ◌++◌}
use Rattle.std.specs.List.{flat_map}
use Rattle.std.specs.Option.{option_map}
use Rattle.web_parts.specs.Headers.{header_rows, rows_of_line}
use Rattle.web_parts.proofs.Cuts.{pieces_in, size_of}
use Rattle.web_parts.proofs.headers.header_rows.Given as goal

abbrev pub invariant-loop-rest : goal.invariant-loop-rest
invariant-loop-rest l = l.rows ++ flat_map rows_of_line (pieces_in 10 (option_map (λ t. t.now) l.rest)) ≡ header_rows l.lines

abbrev pub decreases-loop-rest : goal.decreases-loop-rest
decreases-loop-rest l = size_of (option_map (λ t. t.now) l.rest)
