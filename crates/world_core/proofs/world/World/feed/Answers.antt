use Rattle.std.proofs.Common.{◌<◌, length, position, refl, sym, ap, ◌∙◌, rules}
use Rattle.world_core.proofs.Places.{is_at, is_none}
use Rattle.world_core.specs.Standing.{is_numbered}
use Rattle.world_core.proofs.Growing.{is_within}
use Rattle.world_core.proofs.Turning.{feeds, is_there, whole_at}
use Rattle.world_core.proofs.world.World.feed.Goals as goal

pub index_mut-requires : goal.index_mut-requires
index_mut-requires g c =
    let lt : c.in-Some.place < length c.self.inside.peers.items = is_within (is_numbered c.args.number) c.self.inside.peers.items c.in-Some.place (ap (position (is_numbered c.args.number)) (sym c.deref.ensures.value) ∙ (sym c.place_of.ensures ∙ c.in-Some.is)) in
    search rules

pub hear-requires : goal.hear-requires
hear-requires g c =
    let at = is_at (is_numbered c.args.number) c.self.inside.peers.items c.deref.result.now c.place_of.result c.in-Some.place c.index_mut.result.now c.place_of.ensures c.deref.ensures.value c.in-Some.is c.index_mut.ensures.value in
    let m = c.requires in
    whole_at _ _ c.args.self.now c.args.number c.in-Some.place c.index_mut.result.now c.index_mut.result.now c.self.view_is at m.state m.possible.0 m.stands m.possible.1

pub unreachable-requires : goal.unreachable-requires
unreachable-requires g c =
    let m = c.requires in
    is_there _ _ m.state c.args.number m.possible.0 c.self.view_is m.stands m.possible.1 (is_none (is_numbered c.args.number) c.self.inside.peers.items c.deref.result.now c.place_of.result c.place_of.ensures c.deref.ensures.value c.in-None.is)

pub returns : goal.returns
returns g c =
    let at = is_at (is_numbered c.args.number) c.self.inside.peers.items c.deref.result.now c.place_of.result c.in-Some.place c.index_mut.result.now c.place_of.ensures c.deref.ensures.value c.in-Some.is c.index_mut.ensures.value in
    feeds _ _ _ c.args.number c.in-Some.place c.index_mut.result.now (record { number = c.index_mut.result.now.number; conn = c.hear.new.conn }) c.self.view_is at c.args.bytes c.as_slice.result.now c.hear.result refl c.as_slice.ensures c.hear.ensures (record { size = refl; shelf = refl; moment = refl; is_halls = refl; is_peers = refl })
