use Rattle.std.proofs.Common.{rules}
use Rattle.publish_count.proofs.Steps.{join_keeps}
use Rattle.publish_count.proofs.tallies.PublishCount.join.Goals as goal

pub join_seat-requires : goal.join_seat-requires
join_seat-requires c = (search rules, search rules, search rules, search rules, join_keeps _ c.args.tally.now.me.0 _ c.args.other.me.0 c.requires.count.0.2)
