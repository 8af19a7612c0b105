use Rattle.std.proofs.Common.{refl}
use Rattle.world_core.proofs.Places.{is_at, is_none}
use Rattle.world_core.specs.Standing.{is_numbered}
use Rattle.world_core.specs.Serving.{desk_of}
use Rattle.world_core.proofs.Turning.{acts, is_there, keeps_at, whole_at}
use Rattle.world_core.proofs.world.World.act.Goals as goal

pub act_on-requires-clause-whole : goal.act_on-requires-clause-whole
act_on-requires-clause-whole g c =
    let at = is_at (is_numbered c.args.number) c.self.inside.peers.items c.deref.result.now c.place_of.result c.in-Some.place c.index_mut.result.now c.place_of.ensures c.deref.ensures.value c.in-Some.is c.index_mut.ensures.value in
    let m = c.requires in
    whole_at _ _ c.args.self.now c.args.number c.in-Some.place c.index_mut.result.now c.index_mut.result.now c.self.view_is at m.state m.possible.0 m.stands m.possible.1

pub act_on-requires-clause-keeps : goal.act_on-requires-clause-keeps
act_on-requires-clause-keeps g c =
    let at = is_at (is_numbered c.args.number) c.self.inside.peers.items c.deref.result.now c.place_of.result c.in-Some.place c.index_mut.result.now c.place_of.ensures c.deref.ensures.value c.in-Some.is c.index_mut.ensures.value in
    keeps_at _ _ c.args.self.now c.args.number c.in-Some.place c.index_mut.result.now c.index_mut.result.now c.self.view_is at c.requires

pub unreachable-requires : goal.unreachable-requires
unreachable-requires g c =
    let m = c.requires in
    is_there _ _ m.state c.args.number m.possible.0 c.self.view_is m.stands m.possible.1 (is_none (is_numbered c.args.number) c.self.inside.peers.items c.deref.result.now c.place_of.result c.place_of.ensures c.deref.ensures.value c.in-None.is)

pub returns : goal.returns
returns g c =
    let at = is_at (is_numbered c.args.number) c.self.inside.peers.items c.deref.result.now c.place_of.result c.in-Some.place c.index_mut.result.now c.place_of.ensures c.deref.ensures.value c.in-Some.is c.index_mut.ensures.value in
    acts _ _ _ c.args.number c.in-Some.place c.index_mut.result.now (record { number = c.index_mut.result.now.number; conn = c.act_on.new.conn }) c.self.view_is at c.act_on.result (desk_of c.self.inside.tables) (desk_of c.act_on.new.tables) refl c.act_on.ensures refl refl refl refl refl refl refl refl
