use Rattle.std.proofs.Common.{rules}
use Rattle.publish_count.proofs.Steps.{take_back_keeps}
use Rattle.publish_count.proofs.calls.PublishCount.take_back.Goals as goal

pub fetch_sub-requires : goal.fetch_sub-requires
fetch_sub-requires c = (search rules, search rules, take_back_keeps _ _ c.args.tally.now.me c.requires.count.2 c.requires.added)
