use Rattle.std.proofs.Common.{◌≡◌, ◌≤◌, false, length}
use Rattle.conn_core.specs.Stands.{State, Plain, calls_left}
use Rattle.conn_core.specs.declared.stage.Stage.TheVariants as at
use Rattle.conn_core.proofs.conn.Conn.settle.Given as goal

abbrev pub invariant-loop : goal.invariant-loop
invariant-loop g l = record {
  stage : l.self.stage ≡ at.Bytes;
  whole : l.self.broken ≡ false;
  same : (s : State g.row.R.Denot g.row.P.Denot g.row.T.Denot) → Plain l.initial.self s → Plain l.self s;
  fewer : calls_left l.self ≤ calls_left l.initial.self;
}

abbrev pub decreases-loop : goal.decreases-loop
decreases-loop g l = length l.self.unread
