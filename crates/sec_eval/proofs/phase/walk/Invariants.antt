use Rattle.std.proofs.Common.{◌≡◌, drop, map}
use Rattle.sec_compile.specs.Links.{built_links}
use Rattle.sec_eval.specs.Counting.{Continues}
use Rattle.sec_meaning.specs.Phase.{walk}
use Rattle.sec_meaning.specs.declared.state.Passing.TheVariants.{Looking}
use Rattle.sec_eval.proofs.phase.walk.Given as goal

abbrev pub invariant-loop-item : goal.invariant-loop-item
invariant-loop-item g l = record {
  place : l.place ≡ l.item-index;
  askers : l.askers ≡ map built_links l.items;
  runs : Continues l.fn.steps (walk l.number l.items Looking l.fn.state) l.steps (walk l.number (drop l.item-index l.items) l.passing l.state);
}
