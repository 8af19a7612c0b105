use Rattle.std.proofs.Common.{refl}
use Rattle.hall_core.specs.declared.calls.Call.TheVariants as calls
use Rattle.hall_core.specs.declared.calls.Reply.TheVariants as answers
use Rattle.world_core.proofs.Calling.{its_hall, kept, made_at, seen_as}
use Rattle.world_core.proofs.shards.Shards.park.Goals as goal

pub invariant_of-self : goal.invariant_of-self
invariant_of-self g c =
    kept c.self.inside.halls.items _ c.args.ticket.shard (calls.Park c.args.ticket c.args.deadline c.args.half) (answers.OfPark) c.self.invariant (made_at c.self.inside.halls.items c.args.ticket.shard c.index_mut.result.now c.park.new.self (calls.Park c.args.ticket c.args.deadline c.args.half) (answers.OfPark) (its_hall c.self.inside.halls.items c.args.self.now c.args.ticket.shard c.index_mut.result.now c.args.ticket c.self.view_is c.requires refl c.index_mut.ensures.value).0 c.index_mut.ensures.value (its_hall c.self.inside.halls.items c.args.self.now c.args.ticket.shard c.index_mut.result.now c.args.ticket c.self.view_is c.requires refl c.index_mut.ensures.value).1 tt c.park.ensures)

pub returns : goal.returns
returns g c =
    seen_as c.self.inside.halls.items c.args.self.now c.args.ticket.shard _ (calls.Park c.args.ticket c.args.deadline c.args.half) (answers.OfPark) _ c.self.view_is refl (made_at c.self.inside.halls.items c.args.ticket.shard c.index_mut.result.now c.park.new.self (calls.Park c.args.ticket c.args.deadline c.args.half) (answers.OfPark) (its_hall c.self.inside.halls.items c.args.self.now c.args.ticket.shard c.index_mut.result.now c.args.ticket c.self.view_is c.requires refl c.index_mut.ensures.value).0 c.index_mut.ensures.value (its_hall c.self.inside.halls.items c.args.self.now c.args.ticket.shard c.index_mut.result.now c.args.ticket c.self.view_is c.requires refl c.index_mut.ensures.value).1 tt c.park.ensures)
