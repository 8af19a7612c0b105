use Rattle.std.proofs.Common.{◌≡◌, ◌≤◌, ◌-◌}
use Rattle.conn_loop.specs.Steps.{IsFree}
use Rattle.conn_loop.proofs.Serving.{Serving}
use Rattle.conn_loop.proofs.connection.serve_pieces.Given as goal

abbrev pub invariant-loop-taken : goal.invariant-loop-taken
invariant-loop-taken g l =
    let source = g.S.Source in
    let sink = g.K.Sink in
    record {
      serving : Serving g.H.Host.serves l.size (g.H.Host.desk l.fn.host) (source.left l.fn.input) (source.left l.input) l.taken l.conn (g.H.Host.desk l.host) (sink.held l.fn.output)
          (sink.held l.output);
      free : IsFree l.conn;
      fixed : g.H.Host.fixed l.host ≡ g.H.Host.fixed l.fn.host;
      ready : g.H.Host.ready l.host;
      few : l.taken ≤ 4611686018427387904;
      goes_on : source.ends l.input ≡ source.ends l.fn.input;
      reads : source.faults l.fn.input ≤ source.faults l.input;
      writes : sink.faults l.fn.output ≤ sink.faults l.output;
    }

abbrev pub decreases-loop-taken : goal.decreases-loop-taken
decreases-loop-taken g l = 4611686018427387904 - l.taken
