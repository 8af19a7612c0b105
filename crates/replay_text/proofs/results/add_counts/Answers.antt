use Rattle.std.proofs.Common.{codes}
use Rattle.std.specs.Fmt.{decimal}
use Rattle.replay_text.proofs.Counted.{ended}
use Rattle.replay_text.proofs.results.add_counts.Goals as goal

pub returns : goal.returns
returns c =
    ended c.push.result c.args.text.now (codes "stats") (codes "running") (decimal c.args.counts.running) (codes "parked") (decimal c.args.counts.parked)
    c.append.new.self c.add_count.new.text c.add_count-2.new.text c.push.new.self
    c.in_ok-append.ensures.ok c.in_ok-add_count.ensures c.in_ok-add_count-2.ensures c.push.ensures.ok
