use Rattle.std.proofs.Common.{◌≡◌, ◌+◌, ◌-◌, ℕ, suc, List, ◌∙◌, ap, arith}
use Rattle.spop_data.specs.Lists.{several_at}
use Rattle.spop_data.specs.Reading.{pair_at}
use Rattle.spop_data.specs.declared.value.Pair.{Pair}
use Rattle.spop_data.proofs.Items.{behind, behind_one}
use Rattle.spop_data.proofs.read.pairs_of.Goals as goal

pub loop-preserved : goal.loop-preserved
loop-preserved c =
    let left = c.args.count - (c.loop.counter + 1) in
    let one_more : suc left ≡ c.args.count - c.loop.counter = omega arith in
    ap (λ (ps : List Pair). behind ps (several_at pair_at left c.in_ok-pair.more.now)) c.in_ok-push.ensures.ok
    ∙ behind_one pair_at left c.loop.pairs c.loop.rest.now c.in_ok-pair.pair c.in_ok-pair.more.now c.in_ok-pair.ensures
    ∙ ap (λ (k : ℕ). behind c.loop.pairs (several_at pair_at k c.loop.rest.now)) one_more
    ∙ c.loop.invariant
