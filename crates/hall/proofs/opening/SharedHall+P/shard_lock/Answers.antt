use Rattle.hall.proofs.Places.{got}
use Rattle.hall.proofs.opening.SharedHall+P.shard_lock.Goals as goal

pub returns-clause-passes : goal.returns-clause-passes
returns-clause-passes g c p q is has = is.each c.args.shard c.index.result.now q (got c.args.self.now.locks.items c.args.shard c.index.result.now c.requires c.index.ensures) has
