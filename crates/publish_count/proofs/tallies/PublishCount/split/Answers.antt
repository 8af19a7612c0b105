use Rattle.std.proofs.Common.{rules}
use Rattle.publish_count.proofs.Steps.{split_keeps}
use Rattle.publish_count.proofs.tallies.PublishCount.split.Goals as goal

pub split_seat-requires : goal.split_seat-requires
split_seat-requires c = (search rules, search rules, split_keeps _ c.args.tally.now.me.0 c.requires.share)
