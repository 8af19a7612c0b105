use Rattle.std.proofs.Common.{rules}
use Rattle.publish_count.proofs.Steps.{add_keeps}
use Rattle.publish_count.proofs.calls.PublishCount.add.Goals as goal

pub fetch_add-requires : goal.fetch_add-requires
fetch_add-requires c = (search rules, search rules, add_keeps _ _ c.args.tally.now.me c.requires.count.2)
