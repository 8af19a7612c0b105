use Rattle.std.proofs.Common.{ℕ, [], ◌<◌, get_or, take}
use Rattle.std.specs.List.{AllZip}
use Rattle.ip_set.specs.declared.block.Block.{Block}
use Rattle.ip_set.specs.Blocks.{IsWord}
use Rattle.ip_set.proofs.set.IpSet.read.Given as goal

abbrev pub invariant-loop-at : goal.invariant-loop-at
invariant-loop-at l = record {
  zip : AllZip IsWord (take l.at l.words) l.blocks.items;
  good : (k : ℕ) → k < l.at → (b : Block) × IsWord (get_or l.words k []) b;
}
