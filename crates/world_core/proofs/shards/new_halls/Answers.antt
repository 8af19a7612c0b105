use Rattle.std.proofs.Common.{◌+◌, ◌≤◌, rules}
use Rattle.world_core.proofs.Growing.{another}
use Rattle.world_core.proofs.shards.new_halls.Goals as goal

pub loop-shard-preserved : goal.loop-shard-preserved
loop-shard-preserved g c =
    let fits : c.loop-shard.shard + 1 ≤ c.args.count = search rules in
    (fits, another c.loop-shard.shard c.args.capacity c.loop-shard.halls.items _ _ c.loop-shard.invariant.1 c.in_ok-new.ensures c.in_ok-push.ensures.items)
