use Rattle.std.proofs.Common.{◌≡◌, ◌*◌, ◌^◌, ◌≤◌, take}
use Rattle.sec_collect.specs.Row.{size_of}
use Rattle.sec_collect.specs.Variables.{without}
use Rattle.sec_collect.proofs.sizes.others_size.Given as goal

abbrev pub invariant-loop-row : goal.invariant-loop-row
invariant-loop-row l = record {
  size : l.sum ≡ size_of (without l.name (take l.row-index l.rows));
  small : l.sum ≤ l.row-index * 2 ^ 64;
}
