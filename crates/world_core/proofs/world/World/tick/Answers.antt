use Rattle.std.proofs.Common.{refl}
use Rattle.world_core.proofs.Turning.{ticks}
use Rattle.world_core.proofs.world.World.tick.Goals as goal

pub returns : goal.returns
returns g c = ticks _ _ _ c.args.units c.self.view_is c.saturating_add-self-inside.ensures refl refl refl refl
