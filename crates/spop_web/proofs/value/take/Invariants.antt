use Rattle.std.proofs.Common.{◌≡◌, ◌++◌, drop, map, take}
use Rattle.spop_web.specs.Names.{name_of}
use Rattle.spop_web.specs.Taking.{emptied}
use Rattle.spop_web.specs.Values.{given, present}
use Rattle.spop_web.proofs.value.take.Given as goal

abbrev pub invariant-loop-pair : goal.invariant-loop-pair
invariant-loop-pair l = record {
  value : present l.last ≡ given l.arg (take l.pair-index l.fn.args);
  args : l.args ≡ map (emptied (name_of l.arg)) (take l.pair-index l.fn.args) ++ drop l.pair-index l.fn.args;
}
