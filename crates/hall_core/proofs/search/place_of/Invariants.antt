use Rattle.std.proofs.Common.{◌-◌}
use Rattle.row_table.specs.Table.{listed}
use Rattle.hall_core.proofs.Numbers.{IsCut}
use Rattle.hall_core.proofs.search.place_of.Given as goal

abbrev pub invariant-loop-low : goal.invariant-loop-low
invariant-loop-low g l = IsCut (listed l.table) l.number l.low l.high

abbrev pub decreases-loop-low : goal.decreases-loop-low
decreases-loop-low g l = l.high - l.low
