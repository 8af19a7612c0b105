use Rattle.std.proofs.Common.{ap}
use Rattle.conn_core.specs.declared.seen.Seen.TheVariants.{Counts}
use Rattle.world_core.proofs.Turning.{counts}
use Rattle.world_core.proofs.world.World.stats.Goals as goal

pub returns : goal.returns
returns g c = counts _ c.args.self.now _ c.self.view_is (ap Counts c.counts.ensures)
