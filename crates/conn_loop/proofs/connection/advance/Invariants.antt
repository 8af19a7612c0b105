use Rattle.std.proofs.Common.{◌≡◌, ◌≤◌}
use Rattle.conn_core.specs.Stands.{calls_left}
use Rattle.conn_loop.specs.Met.{IsHeld}
use Rattle.conn_loop.specs.Steps.{Acts}
use Rattle.conn_loop.proofs.connection.advance.Given as goal

-- it went on from where it was
abbrev pub invariant-loop-progress : goal.invariant-loop-progress
invariant-loop-progress g l = record {
  acts : Acts g.H.Host.serves l.initial.conn l.conn (g.H.Host.desk l.initial.host) (g.H.Host.desk l.host) (g.K.Sink.held l.initial.output) (g.K.Sink.held l.output);
  held : IsHeld g.H.Host.holds (g.H.Host.desk l.host) l.conn;
  fixed : g.H.Host.fixed l.host ≡ g.H.Host.fixed l.initial.host;
  ready : g.H.Host.ready l.host;
  later : g.K.Sink.faults l.initial.output ≤ g.K.Sink.faults l.output;
}

abbrev pub decreases-loop-progress : goal.decreases-loop-progress
decreases-loop-progress g l = calls_left l.conn
