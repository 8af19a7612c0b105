use Rattle.std.proofs.Common.{rules, ◌∙◌, ◌++◌, ◌∷◌, [], ap, sym, length-append, arith}
use Rattle.control.proofs.Counts.{counted_more, sum_more}
use Rattle.control.proofs.counting.count_all.Goals as goal

pub loop-shard-preserved : goal.loop-shard-preserved
loop-shard-preserved g c =
    let i = c.loop-shard.invariant in
    let found = c.count-counts.result in
    let made = c.count-counts.ensures in (
      made.of_hall,
      made.shares ∙ i.1,
      (
        i.2.0 ++ found ∷ [],
        (let more = length-append i.2.0 (found ∷ []) in let count = i.2.1 in omega (arith, more, count)),
        counted_more 0 i.2.0 found _ _ _ c.loop-shard.shard (let count = i.2.1 in omega (arith, count)) i.2.2 made.adds,
        sum_more (λ k. k.running) i.2.0 found c.loop-shard.totals.running c.saturating_add.result i.2.3 (search rules),
        sum_more (λ k. k.parked) i.2.0 found c.loop-shard.totals.parked c.saturating_add-in-loop-shard.result i.2.4 (search rules),
      ),
    )
