use Rattle.std.proofs.Common.{arith, sym}
use Rattle.std.proofs.lemmas.List.FromFn.{map-range_with_len_more}
use Rattle.sec_ops.proofs.pattern.spans.Goals as goal

pub loop-k-preserved : goal.loop-k-preserved
loop-k-preserved c = (
  c.loop-k.invariant.0,
  omega arith,
  rw (c.in_ok-push.ensures.items, c.loop-k.invariant.2, c.get.ensures) (sym (map-range_with_len_more _ 0 c.loop-k.k c.loop-k.k (omega arith))),
)
