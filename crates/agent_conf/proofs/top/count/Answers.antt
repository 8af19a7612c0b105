use Rattle.agent_conf.proofs.Items.{count_items}
use Rattle.agent_conf.proofs.top.count.Goals as goal

pub returns : goal.returns
returns c = count_items c.args.items.now
