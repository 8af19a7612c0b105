use Rattle.std.proofs.Common.{refl}
use Rattle.world_core.proofs.Places.{is_at, is_none}
use Rattle.world_core.specs.Standing.{is_numbered}
use Rattle.world_core.proofs.Turning.{ends, is_there, whole_at}
use Rattle.world_core.proofs.world.World.end.Goals as goal

pub hear_end-requires : goal.hear_end-requires
hear_end-requires g c =
    let at = is_at (is_numbered c.args.number) c.self.inside.peers.items c.deref.result.now c.place_of.result c.in-Some.place c.index_mut.result.now c.place_of.ensures c.deref.ensures.value c.in-Some.is c.index_mut.ensures.value in
    let m = c.requires in
    whole_at _ _ c.args.self.now c.args.number c.in-Some.place c.index_mut.result.now c.index_mut.result.now c.self.view_is at m.state m.possible.0 m.stands m.possible.1

pub unreachable-requires : goal.unreachable-requires
unreachable-requires g c =
    let m = c.requires in
    is_there _ _ m.state c.args.number m.possible.0 c.self.view_is m.stands m.possible.1 (is_none (is_numbered c.args.number) c.self.inside.peers.items c.deref.result.now c.place_of.result c.place_of.ensures c.deref.ensures.value c.in-None.is)

pub returns : goal.returns
returns g c =
    let at = is_at (is_numbered c.args.number) c.self.inside.peers.items c.deref.result.now c.place_of.result c.in-Some.place c.index_mut.result.now c.place_of.ensures c.deref.ensures.value c.in-Some.is c.index_mut.ensures.value in
    ends _ _ _ c.args.number c.in-Some.place c.index_mut.result.now (record { number = c.index_mut.result.now.number; conn = c.hear_end.new.conn }) c.self.view_is at c.hear_end.result refl c.hear_end.ensures (record { size = refl; shelf = refl; moment = refl; is_halls = refl; is_peers = refl })
