use Rattle.std.proofs.Common.{refl}
use Rattle.world_core.proofs.Turning.{expires}
use Rattle.world_core.proofs.world.World.expire.Goals as goal

pub returns-in-NothingDue : goal.returns-in-NothingDue
returns-in-NothingDue g c = expires _ _ _ c.args.shard _ _ _ c.self.view_is c.in-NothingDue.ensures refl refl refl refl refl refl

pub returns : goal.returns
returns g c = expires _ _ _ c.args.shard _ _ _ c.self.view_is c.in-Expired.ensures (_, c.in_ok-retire-in-Expired.ensures, refl) refl refl refl refl refl
