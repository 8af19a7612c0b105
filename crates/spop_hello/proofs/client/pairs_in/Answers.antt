use Rattle.std.proofs.Common.{◌<◌, length, List, ◌∙◌, ap}
use Rattle.spop_data.specs.Data.{SpellsPair}
use Rattle.spop_data.specs.Lists.{all_of}
use Rattle.spop_data.specs.Reading.{pair_at}
use Rattle.spop_data.specs.declared.value.Pair.{Pair}
use Rattle.spop_data.proofs.Items.{after, smaller, after_one, left_bytes}
use Rattle.spop_data.proofs.Laws.{pair}
use Rattle.spop_hello.proofs.Pairs.{some, not_empty}
use Rattle.spop_hello.proofs.client.pairs_in.Goals as goal

pub loop-rest-smaller : goal.loop-rest-smaller
loop-rest-smaller c =
    smaller pair_at SpellsPair pair some c.loop-rest.rest.now c.in_ok-pair.pair c.in_ok-pair.more.now c.loop-rest.invariant.bytes c.in_ok-pair.ensures

pub loop-rest-preserved : goal.loop-rest-preserved
loop-rest-preserved c =
    let rest = c.loop-rest.rest.now in
    let x = c.in_ok-pair.pair in
    let more = c.in_ok-pair.more.now in
    let all = c.loop-rest.invariant.bytes in
    let has : 0 < length rest = not_empty rest c.is_empty.result c.loop-rest-test.true c.is_empty.ensures in
    record {
      left = ap (λ (ps : List Pair). after ps (all_of pair_at more)) c.in_ok-push.ensures.ok
          ∙ after_one pair_at SpellsPair pair some c.loop-rest.pairs rest x more all has c.in_ok-pair.ensures
          ∙ c.loop-rest.invariant.left;
      bytes = left_bytes pair_at SpellsPair pair some rest x more all c.in_ok-pair.ensures;
    }
