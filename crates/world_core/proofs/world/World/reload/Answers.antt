use Rattle.std.proofs.Common.{refl, ap}
use Rattle.world_core.specs.Steps.{told}
use Rattle.world_core.proofs.Turning.{reloaded}
use Rattle.world_core.proofs.world.World.reload.Goals.{in-Generation, in-Worn}
use Rattle.world_core.proofs.world.World.reload.Goals as goal

pub returns : goal.returns
returns g c = elim c.match-publish.branch [
  | in-Generation w ↦ reloaded _ _ _ c.args.apps c.publish.result c.match-publish.result _ c.self.view_is c.publish.ensures.reply c.publish.ensures.state w.result-is (ap told w.in-Generation.is) refl refl refl refl
  | in-Worn w ↦ reloaded _ _ _ c.args.apps c.publish.result c.match-publish.result _ c.self.view_is c.publish.ensures.reply c.publish.ensures.state w.result-is (ap told w.in-Worn.is) refl refl refl refl
]
