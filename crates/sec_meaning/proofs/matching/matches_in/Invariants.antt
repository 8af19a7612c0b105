use Rattle.std.proofs.Common.{◌≡◌, take}
use Rattle.std.specs.List.{flat_map}
use Rattle.sec_meaning.specs.Values.{listed, match_of}
use Rattle.sec_meaning.proofs.matching.matches_in.Given as goal

abbrev pub invariant-loop-row : goal.invariant-loop-row
invariant-loop-row l = l.out ≡ flat_map (λ r. listed (match_of l.link l.argument r)) (take l.row-index l.rows)
