use Rattle.std.proofs.Common.{◌≡◌, ◌++◌, drop}
use Rattle.std.specs.List.{flat_map, zip}
use Rattle.sec_collect.specs.Selection.{values_of, selection}
use Rattle.sec_collect.proofs.selection.select.Given as goal

abbrev pub invariant-loop-target : goal.invariant-loop-target
invariant-loop-target g l =
    let meaning = g.M.Selector.meaning in
    l.out ++ flat_map (values_of meaning (zip l.targets l.patterns) l.removed l.vars) (zip (drop l.target-index l.targets) l.rest) ≡ selection meaning (zip l.targets l.patterns) l.removed l.vars
