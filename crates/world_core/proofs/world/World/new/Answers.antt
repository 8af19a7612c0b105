use Rattle.std.proofs.Common.{refl}
use Rattle.world_core.proofs.Turning.{begins}
use Rattle.world_core.proofs.world.World.new.Goals as goal

pub returns : goal.returns
returns g c = begins _ c.args.size c.args.shards c.args.capacity c.args.apps refl c.new-2.ensures c.in_ok-shards.ensures refl c.new-3.ensures.items
