use Rattle.world_core.proofs.Places.{is_at, is_none}
use Rattle.world_core.specs.Standing.{is_numbered}
use Rattle.world_core.proofs.Turning.{is_there, needs_at}
use Rattle.world_core.proofs.world.World.needs.Goals as goal

pub unreachable-requires : goal.unreachable-requires
unreachable-requires g c =
    let m = c.requires in
    is_there _ _ m.state c.args.number m.conn c.self.view_is m.stands m.has (is_none (is_numbered c.args.number) c.self.inside.peers.items c.deref.result.now c.place_of.result c.place_of.ensures c.deref.ensures.value c.in-None.is)

pub returns : goal.returns
returns g c =
    let at = is_at (is_numbered c.args.number) c.self.inside.peers.items c.deref.result.now c.place_of.result c.in-Some.place c.index.result.now c.place_of.ensures c.deref.ensures.value c.in-Some.is c.index.ensures in
    needs_at _ _ c.args.self.now c.args.number c.in-Some.place c.index.result.now c.index.result.now c.self.view_is at c.need.result c.need.ensures.kind c.need.ensures.holds
