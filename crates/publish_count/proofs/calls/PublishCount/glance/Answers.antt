use Rattle.std.proofs.Common.{rules}
use Rattle.publish_count.proofs.Steps.{glance_keeps}
use Rattle.publish_count.proofs.calls.PublishCount.glance.Goals as goal

pub load-requires : goal.load-requires
load-requires c = (search rules, search rules, glance_keeps _ _ c.args.tally.now.me)
