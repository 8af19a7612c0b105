use Rattle.std.proofs.Common.{◌≡◌, length}
use Rattle.sec_collect.specs.Expansion.{first_value}
use Rattle.sec_collect.specs.RowList.{row_list}
use Rattle.sec_collect.proofs.expansion.first_value.Given as goal

abbrev pub invariant-loop-name : goal.invariant-loop-name
invariant-loop-name l = first_value l.key (row_list l.rest) ≡ first_value l.key (row_list l.rows)

abbrev pub decreases-loop-name : goal.decreases-loop-name
decreases-loop-name l = length (row_list l.rest)
