use Rattle.std.proofs.Common.{◌≤◌, ◌-◌}
use Rattle.hall_core.specs.Keys.{IsKeyCut, key_at}
use Rattle.hall_core.proofs.keys.KeyIndex.search.Given as goal

abbrev pub invariant-loop-low : goal.invariant-loop-low
invariant-loop-low g l = (l.low ≤ l.high) × IsKeyCut (key_at l.table.rows) l.self.places.items l.key l.low l.high

abbrev pub decreases-loop-low : goal.decreases-loop-low
decreases-loop-low g l = l.high - l.low
