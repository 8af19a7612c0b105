use Rattle.std.proofs.Common.{◌≤◌}
use Rattle.world_core.specs.Standing.{AreNew}
use Rattle.world_core.proofs.shards.new_halls.Given as goal

abbrev pub invariant-loop-shard : goal.invariant-loop-shard
invariant-loop-shard g l = (l.shard ≤ l.count) × AreNew l.shard l.capacity l.halls.items
