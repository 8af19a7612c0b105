use Rattle.std.proofs.Common.{◌≡◌, ◌≤◌, map}
use Rattle.std.specs.List.{range_with_len}
use Rattle.regex.specs.Locations.{location, location_count}
use Rattle.sec_ops.proofs.pattern.spans.Given as goal

abbrev pub invariant-loop-k : goal.invariant-loop-k
invariant-loop-k l = (l.k-end ≡ location_count l.locations) × (l.k ≤ l.k-end) × (l.spans.items ≡ map (location l.locations) (range_with_len 0 l.k))
