use Rattle.std.proofs.Common.{◌≡◌, ◌++◌, [], drop}
use Rattle.std.specs.List.{flat_map, zip}
use Rattle.sec_collect.specs.Selection.{selection, values_of}
use Rattle.sec_eval.specs.Matching.{matched_of}
use Rattle.sec_ops.specs.Selectors.{is_matched}
use Rattle.sec_eval.proofs.matching.matches_of.Given as goal

abbrev pub invariant-loop-target : goal.invariant-loop-target
invariant-loop-target l =
    let all = zip l.query.targets.now l.query.patterns.now in
    record {
      same : l.asker ≡ l.fn.asker;
      out : l.out ++ matched_of l.question (flat_map (values_of is_matched all [] l.vars) (zip (drop l.target-index l.query.targets.now) l.rest))
          ≡ matched_of l.question (selection is_matched all [] l.vars);
    }
