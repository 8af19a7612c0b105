use Rattle.std.proofs.Common.{◌≡◌, ◌++◌, [], length}
use Rattle.std.specs.Prelude.{filter, map}
use Rattle.std.specs.List.{zip}
use Rattle.sec_collect.specs.RowList.{row_list}
use Rattle.sec_collect.specs.Selection.{keeps, value_row}
use Rattle.sec_eval.specs.Matching.{matched_of}
use Rattle.sec_ops.specs.Selectors.{is_matched}
use Rattle.sec_eval.proofs.matching.add_rows.Given as goal

abbrev pub invariant-loop-name : goal.invariant-loop-name
invariant-loop-name l =
    let test = keeps is_matched (zip l.query.targets.now l.query.patterns.now) [] (l.target, l.pattern) in
    record {
      same : l.asker ≡ l.fn.asker;
      out : l.out ++ matched_of l.question (map (value_row l.target.var) (filter (λ r. test r.name) (row_list l.rest)))
          ≡ l.fn.out ++ matched_of l.question (map (value_row l.target.var) (filter (λ r. test r.name) (row_list l.rows)));
    }

abbrev pub decreases-loop-name : goal.decreases-loop-name
decreases-loop-name l = length (row_list l.rest)
