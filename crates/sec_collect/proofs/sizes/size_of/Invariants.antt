use Rattle.std.proofs.Common.{◌≡◌, ◌*◌, ◌^◌, ◌≤◌, take}
use Rattle.sec_collect.specs.Row.{size_of}
use Rattle.sec_collect.proofs.sizes.size_of.Given as goal

abbrev pub invariant-loop-row : goal.invariant-loop-row
invariant-loop-row l = record {
  size : l.sum ≡ size_of (take l.row-index l.rows);
  small : l.sum ≤ l.row-index * 2 ^ 64;
}
