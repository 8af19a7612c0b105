use Rattle.std.proofs.Common.{◌<◌, length, refl, subst, sym}
use Rattle.hall_core.specs.declared.calls.Call.TheVariants as calls
use Rattle.hall_core.specs.declared.calls.Reply.TheVariants as answers
use Rattle.world_core.proofs.Calling.{kept, made_at, seen_as}
use Rattle.world_core.proofs.shards.Shards.expire.Goals as goal

pub invariant_of-self : goal.invariant_of-self
invariant_of-self g c =
    kept c.self.inside.halls.items _ c.args.shard (calls.Expire c.args.now) (answers.OfExpire c.expire.result) c.self.invariant (made_at c.self.inside.halls.items c.args.shard c.index_mut.result.now c.expire.new.self (calls.Expire c.args.now) (answers.OfExpire c.expire.result) (subst (λ z. c.args.shard < length z) (sym c.self.view_is) c.requires) c.index_mut.ensures.value tt c.expire.ensures.reply c.expire.ensures.state)

pub returns : goal.returns
returns g c =
    seen_as c.self.inside.halls.items c.args.self.now c.args.shard _ (calls.Expire c.args.now) (answers.OfExpire c.expire.result) _ c.self.view_is refl (made_at c.self.inside.halls.items c.args.shard c.index_mut.result.now c.expire.new.self (calls.Expire c.args.now) (answers.OfExpire c.expire.result) (subst (λ z. c.args.shard < length z) (sym c.self.view_is) c.requires) c.index_mut.ensures.value tt c.expire.ensures.reply c.expire.ensures.state)
