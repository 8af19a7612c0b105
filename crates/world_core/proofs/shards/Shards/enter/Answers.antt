use Rattle.std.proofs.Common.{◌≡◌, ◌<◌, length, rules}
use Rattle.hall_core.specs.Shard.{shard_of}
use Rattle.hall_core.specs.declared.calls.Call.TheVariants as calls
use Rattle.hall_core.specs.declared.calls.Reply.TheVariants as answers
use Rattle.world_core.proofs.Calling.{entered, kept, made_at, seen_as}
use Rattle.world_core.proofs.shards.Shards.enter.Goals as goal

pub invariant_of-self : goal.invariant_of-self
invariant_of-self g c =
    let lt : c.shard_of-shard.result < length c.self.inside.halls.items = search rules in
    kept c.self.inside.halls.items _ c.shard_of-shard.result (calls.Enter c.args.key) (answers.OfEnter c.enter.result) c.self.invariant (made_at c.self.inside.halls.items c.shard_of-shard.result c.index_mut.result.now c.enter.new.self (calls.Enter c.args.key) (answers.OfEnter c.enter.result) lt c.index_mut.ensures.value tt c.enter.ensures.reply c.enter.ensures.state)

pub returns-clause-called : goal.returns-clause-called
returns-clause-called g c =
    let lt : c.shard_of-shard.result < length c.self.inside.halls.items = search rules in
    let e : c.shard_of-shard.result ≡ shard_of (length c.args.self.now) c.args.key = search rules in
    seen_as c.self.inside.halls.items c.args.self.now c.shard_of-shard.result _ (calls.Enter c.args.key) (answers.OfEnter c.enter.result) _ c.self.view_is e (made_at c.self.inside.halls.items c.shard_of-shard.result c.index_mut.result.now c.enter.new.self (calls.Enter c.args.key) (answers.OfEnter c.enter.result) lt c.index_mut.ensures.value tt c.enter.ensures.reply c.enter.ensures.state)

pub returns-clause-runs : goal.returns-clause-runs
returns-clause-runs g c = λ ticket is.
    (let lt : c.shard_of-shard.result < length c.self.inside.halls.items = search rules in
    entered c.self.inside.halls.items _ c.shard_of-shard.result c.args.key c.enter.result ticket c.self.invariant.2 (made_at c.self.inside.halls.items c.shard_of-shard.result c.index_mut.result.now c.enter.new.self (calls.Enter c.args.key) (answers.OfEnter c.enter.result) lt c.index_mut.ensures.value tt c.enter.ensures.reply c.enter.ensures.state) is)
