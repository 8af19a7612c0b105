use Rattle.std.proofs.Common.{◌≡◌, ◌++◌}
use Rattle.std.specs.List.{flat_map}
use Rattle.std.specs.Option.{option_map}
use Rattle.web_parts.specs.Cookies.{cookies_of, rows_of_piece}
use Rattle.web_parts.specs.Pieces.{trimmed}
use Rattle.web_parts.proofs.Cuts.{pieces_in, size_of}
use Rattle.web_parts.proofs.cookies.add_cookies.Given as goal

abbrev pub invariant-loop-rest : goal.invariant-loop-rest
invariant-loop-rest l = l.rows ++ flat_map (λ piece. rows_of_piece (trimmed piece)) (pieces_in 59 (option_map (λ t. t.now) l.rest)) ≡ l.fn.rows ++ cookies_of l.value

abbrev pub decreases-loop-rest : goal.decreases-loop-rest
decreases-loop-rest l = size_of (option_map (λ t. t.now) l.rest)
