use Rattle.std.proofs.Common.{rules, sym, subst}
use Rattle.hall_core.specs.Step.{IsNew}
use Rattle.hall.proofs.Opened.{opened_more, opened_splits}
use Rattle.hall.proofs.opening.SharedHall+P.new.Goals as goal

pub loop-shard-preserved : goal.loop-shard-preserved
loop-shard-preserved g c = let o = c.in_ok-lock.ensures in (
  search rules,
  search rules,
  opened_more c.args.capacity c.loop-shard.shard c.loop-shard.locks.items _ c.loop-shard.seats.items _ c.in_ok-lock.lock c.in_ok-lock.seat c.loop-shard.invariant.2 c.push_reserved.ensures.items
      c.push_reserved-in-loop-shard.ensures.items
      (record {
        pass = o.lock.0;
        opened = subst (λ z. IsNew c.loop-shard.shard c.args.capacity z) (sym o.lock.1) c.in_ok-hall.ensures;
        seen = o.pass.0;
        marks = o.pass.1;
        share = o.pass.2;
      }),
)

pub returns-clause-share : goal.returns-clause-share
returns-clause-share g c = opened_splits c.args.capacity c.loop-shard.shard c.loop-shard.locks.items (record { seats = c.loop-shard.seats }) c.loop-shard.invariant.2
