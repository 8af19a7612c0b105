use Rattle.std.proofs.Common.{◌<◌, length}
use Rattle.due_index.specs.Tree.{Fits, IsSettledBut}
use Rattle.due_index.proofs.tree.climb.Given as goal

abbrev pub invariant-loop-at : goal.invariant-loop-at
invariant-loop-at l = record {
  fits : Fits l.held l.firsts.items;
  inner : l.at < length l.held;
  rest : IsSettledBut l.held l.firsts.items l.at;
}

abbrev pub decreases-loop-at : goal.decreases-loop-at
decreases-loop-at l = l.at
