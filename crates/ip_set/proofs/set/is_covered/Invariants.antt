use Rattle.std.proofs.Common.{◌≡◌, ℕ, ◌<◌, get_or}
use Rattle.ip_set.specs.declared.block.Block.{Block}
use Rattle.ip_set.specs.Blocks.{Covers}
use Rattle.ip_set.proofs.set.is_covered.Given as goal

abbrev pub invariant-loop-block : goal.invariant-loop-block
invariant-loop-block l = (k : ℕ) (x : Block) → k < l.block-index → get_or l.blocks k x ≡ x → ¬ Covers x l.ip
