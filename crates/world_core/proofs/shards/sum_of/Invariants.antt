use Rattle.std.proofs.Common.{◌≡◌, take}
use Rattle.world_core.specs.Steps.{counts_of}
use Rattle.world_core.proofs.shards.sum_of.Given as goal

abbrev pub invariant-loop-hall : goal.invariant-loop-hall
invariant-loop-hall g l = l.sum ≡ counts_of (take l.hall-index l.halls)
