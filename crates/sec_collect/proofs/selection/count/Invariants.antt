use Rattle.std.proofs.Common.{◌≡◌, ◌+◌, length}
use Rattle.std.specs.Prelude.{filter}
use Rattle.std.specs.List.{zip}
use Rattle.sec_collect.specs.Selection.{keeps}
use Rattle.sec_collect.specs.RowList.{row_list}
use Rattle.sec_collect.proofs.selection.count.Given as goal

abbrev pub invariant-loop-name : goal.invariant-loop-name
invariant-loop-name g l =
    let test = keeps g.M.Selector.meaning (zip l.query.targets.now l.query.patterns.now) l.removed (l.target, l.pattern) in
    l.count + length (filter (λ r. test r.name) (row_list l.rest)) ≡ length (filter (λ r. test r.name) (row_list l.rows))

abbrev pub decreases-loop-name : goal.decreases-loop-name
decreases-loop-name g l = length (row_list l.rest)
