use Rattle.std.proofs.Common.{ap, not, count_by}
use Rattle.hall_core.specs.State as table
use Rattle.world_core.specs.Steps.{last_count}
use Rattle.world_core.proofs.Counting.{one_more}
use Rattle.world_core.proofs.shards.sum_of.Goals as goal

pub loop-hall-preserved : goal.loop-hall-preserved
loop-hall-preserved g c =
    let halls = c.args.halls.now in let i = c.loop-hall.hall-index in let hall = c.hall-item.result in let counts = c.counts-counts in let before = c.loop-hall.invariant in
    let running = one_more (λ hall. count_by (λ row. table.is_running row.stage) hall.rows) halls i hall last_count _ _ _ c.loop-hall-test.true c.hall-item.is (ap (λ z. z.running) before) counts.ensures.0 c.saturating_add.ensures in
    let parked = one_more (λ hall. count_by (λ row. not (table.is_running row.stage)) hall.rows) halls i hall last_count _ _ _ c.loop-hall-test.true c.hall-item.is (ap (λ z. z.parked) before) counts.ensures.1 c.saturating_add-in-loop-hall.ensures in
    λ k. record { running = running k; parked = parked k }
