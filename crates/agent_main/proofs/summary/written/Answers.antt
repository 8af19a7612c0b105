use Rattle.agent_main.specs.Summary.{written_in, last_count, sum_of}
use Rattle.agent_main.proofs.Counting.{one_more}
use Rattle.agent_main.proofs.summary.written.Goals as goal

pub loop-entry-preserved : goal.loop-entry-preserved
unfolding sum_of
loop-entry-preserved c =
    one_more written_in c.args.entries.now c.loop-entry.entry-index c.entry-item.result last_count c.loop-entry.sum _ _ c.loop-entry-test.true c.entry-item.is c.loop-entry.invariant c.written_in.ensures c.saturating_add-sum.ensures
