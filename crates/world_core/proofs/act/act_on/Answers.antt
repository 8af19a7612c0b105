use Rattle.std.proofs.Common.{subst}
use Rattle.conn_core.specs.Calls.{At}
use Rattle.world_core.specs.Serving.{desk_of}
use Rattle.world_core.proofs.Meeting.{wrote}
use Rattle.world_core.proofs.act.act_on.Goals as goal

pub returns-in-Write : goal.returns-in-Write
returns-in-Write g c =
    let at = subst (λ k. At k c.args.conn.now.broken c.args.conn.now.stage) c.in-Write.is (c.need.ensures.at c.requires.whole.1 c.requires.whole.2) in
    wrote (desk_of c.args.tables.now) c.args.conn.now c.write.new.conn c.write.result c.requires.whole.0 at c.write.ensures
