use Rattle.std.proofs.Common.{◌≡◌, ◌∷◌, drop}
use Rattle.sec_eval.specs.Search.{LeadsTo, found_then}
use Rattle.sec_meaning.specs.Values.{changes, first_hit}
use Rattle.sec_ops.specs.Hits.{hit}
use Rattle.sec_transforms.specs.Apply.{chained}
use Rattle.sec_eval.proofs.search.search_each.Given as goal

abbrev pub invariant-loop-transform : goal.invariant-loop-transform
invariant-loop-transform l = record {
  same : l.asker ≡ l.fn.asker;
  found : found_then (hit l.fn.asker.op l.argument) (drop l.transform-index l.transform-items) l.search ≡ first_hit (hit l.fn.asker.op l.argument) (l.value ∷ changes l.transforms l.value);
  missed : LeadsTo (chained l.transforms l.value) (drop l.transform-index l.transform-items) l.search;
}
