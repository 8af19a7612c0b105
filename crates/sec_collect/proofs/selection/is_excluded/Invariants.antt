use Rattle.std.proofs.Common.{◌≡◌, drop}
use Rattle.std.specs.List.{list_any, zip}
use Rattle.sec_collect.specs.Selection.{excludes}
use Rattle.sec_collect.proofs.selection.is_excluded.Given as goal

abbrev pub invariant-loop-target : goal.invariant-loop-target
invariant-loop-target g l = let meaning = g.M.Selector.meaning in list_any (excludes meaning l.var l.name) (zip (drop l.target-index l.targets) l.rest) ≡ list_any (excludes meaning l.var l.name) (zip l.targets l.patterns)
