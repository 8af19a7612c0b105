use Rattle.std.proofs.Common.{◌≡◌, ◌<◌, length, rules}
use Rattle.hall_core.specs.Shard.{shard_of}
use Rattle.hall_core.specs.declared.calls.Call.TheVariants as calls
use Rattle.hall_core.specs.declared.calls.Reply.TheVariants as answers
use Rattle.world_core.proofs.Calling.{kept, made_at, seen_as}
use Rattle.world_core.proofs.shards.Shards.resume.Goals as goal

pub invariant_of-self : goal.invariant_of-self
invariant_of-self g c =
    let lt : c.shard_of-shard.result < length c.self.inside.halls.items = search rules in
    kept c.self.inside.halls.items _ c.shard_of-shard.result (calls.Resume c.args.key.now) (answers.OfResume c.resume.result) c.self.invariant (made_at c.self.inside.halls.items c.shard_of-shard.result c.index_mut.result.now c.resume.new.self (calls.Resume c.args.key.now) (answers.OfResume c.resume.result) lt c.index_mut.ensures.value tt c.resume.ensures.reply c.resume.ensures.state)

pub returns : goal.returns
returns g c =
    let lt : c.shard_of-shard.result < length c.self.inside.halls.items = search rules in
    let e : c.shard_of-shard.result ≡ shard_of (length c.args.self.now) c.args.key.now = search rules in
    seen_as c.self.inside.halls.items c.args.self.now c.shard_of-shard.result _ (calls.Resume c.args.key.now) (answers.OfResume c.resume.result) _ c.self.view_is e (made_at c.self.inside.halls.items c.shard_of-shard.result c.index_mut.result.now c.resume.new.self (calls.Resume c.args.key.now) (answers.OfResume c.resume.result) lt c.index_mut.ensures.value tt c.resume.ensures.reply c.resume.ensures.state)
