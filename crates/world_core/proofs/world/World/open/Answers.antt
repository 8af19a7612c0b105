use Rattle.std.proofs.Common.{refl}
use Rattle.world_core.proofs.Turning.{opens}
use Rattle.world_core.proofs.world.World.open.Goals as goal

pub returns : goal.returns
returns g c = opens _ _ _ c.args.number (record { number = c.args.number; conn = c.in_ok-conn.conn }) c.self.view_is refl c.in_ok-conn.ensures.listens c.in_ok-conn.ensures.stands refl refl refl refl c.in_ok-push.ensures.items
