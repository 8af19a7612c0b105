use Rattle.std.proofs.Common.{refl, ◌∙◌, arith}
use Rattle.conn_worker.proofs.Visits.{worked_both, worked_none}
use Rattle.conn_worker.proofs.peers.work.Goals as goal

pub loop-init : goal.loop-init
loop-init g c = (
  tt,
  tt,
  record {
    home = c.requires.home;
    desk = c.requires.desk;
    rules = c.requires.rules;
    desk_shares = refl;
    rules_share = refl;
    worked = worked_none _ _ _ _ _ _;
    later = omega arith;
    closings = refl;
  },
)

pub returns-in-Some-next-clause-worked : goal.returns-in-Some-next-clause-worked
returns-in-Some-next-clause-worked g c = worked_both _ _ _ _ _ _ _ _ _ _ _ _ c.loop.invariant.2.worked c.serve_next-next.ensures.worked

pub loop-preserved : goal.loop-preserved
loop-preserved g c =
    let kept = c.loop.invariant.2 in
    let next = c.serve_next-next.ensures in (
      tt,
      tt,
      record {
        home = next.home;
        desk = next.desk;
        rules = next.rules;
        desk_shares = next.shares.0 ∙ kept.desk_shares;
        rules_share = next.shares.1 ∙ kept.rules_share;
        worked = worked_both _ _ _ _ _ _ _ _ _ _ _ _ kept.worked next.worked;
        later = omega (arith, kept.later, next.later);
        closings = c.in_default.ensures.closed ∙ kept.closings;
      },
    )
