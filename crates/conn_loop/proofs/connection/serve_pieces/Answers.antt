use Rattle.std.proofs.Common.{◌≡◌, ◌≤◌, ◌+◌, length, refl, ap, ◌∙◌, arith}
use Rattle.std.proofs.lemmas.List.{length-take-le}
use Rattle.waf_io.specs.Counts.{one_more}
use Rattle.conn_loop.proofs.Serving.{free_at_first, opens, heard, heard_end, input_ends, read_fails, spends}
use Rattle.conn_loop.proofs.connection.serve_pieces.Goals as goal

pub loop-taken-init : goal.loop-taken-init
loop-taken-init g c = record {
  serving = opens g.H.Host.serves c.args.size (g.H.Host.desk c.args.host.now) (g.S.Source.left c.args.input.now) (g.K.Sink.held c.args.output.now) c.args.conn.now c.requires.stands c.requires.listens;
  free = free_at_first c.args.size c.args.conn.now c.requires.stands;
  fixed = refl;
  ready = c.requires.ready;
  few = omega arith;
  goes_on = refl;
  reads = omega arith;
  writes = omega arith;
}

pub returns-in-Failed-clause-served : goal.returns-in-Failed-clause-served
returns-in-Failed-clause-served g c =
    read_fails g.H.Host.serves c.args.size _ _ _ (g.S.Source.left c.read_piece.new.input) _ _ _ _ _ _ _ c.in-Failed.ensures.bytes
    (c.in-Failed.ensures.end ∙ c.loop-taken.invariant.goes_on) c.loop-taken.invariant.serving

pub returns-in-End-clause-served : goal.returns-in-End-clause-served
returns-in-End-clause-served g c =
    input_ends g.H.Host.serves c.args.size _ _ (g.S.Source.left c.loop-taken.input) (g.S.Source.left c.read_piece.new.input) c.loop-taken.taken c.loop-taken.conn c.hear_end.new.conn _ _ _ _ _
    c.loop-taken.invariant.serving (g.S.Source.ends c.args.input.now) (g.S.Source.ends c.read_piece.new.input)
    (c.in-End.ensures.end ∙ ap one_more c.loop-taken.invariant.goes_on) c.hear_end.result c.in-End.ensures.bytes.0 c.in-End.ensures.bytes.1 c.hear_end.ensures.ended

pub hear-requires : goal.hear-requires
hear-requires g c =
    let kept = c.loop-taken.invariant in
    record { runs = (g.H.Host.desk c.args.host.now, g.K.Sink.held c.args.output.now, kept.serving.state, kept.serving.runs); free = kept.free; ready = kept.ready }

pub returns-in-Some-clause-served : goal.returns-in-Some-clause-served
returns-in-Some-clause-served g c =
    let n = c.in-Bytes.count in
    let count : length c.split_at.result.0.now ≡ n = ap length c.split_at.ensures.front ∙ length-take-le n c.read_piece.new.buffer c.in-Bytes.ensures.bytes.0 in
    heard_end g.H.Host.serves c.args.size _ _ (g.S.Source.left c.loop-taken.input) (g.S.Source.left c.read_piece.new.input) c.loop-taken.taken n c.loop-taken.conn c.hear.new.conn _ _ _ _ _
    c.read_piece.new.buffer c.split_at.result.0.now c.loop-taken.invariant.serving c.in-Bytes.ensures.bytes.2 c.split_at.ensures.front count
    (g.S.Source.ends c.args.input.now) (g.S.Source.ends c.read_piece.new.input) (c.in-Bytes.ensures.end ∙ c.loop-taken.invariant.goes_on) c.in-Some.end c.in-Some.ensures.heard

pub loop-taken-preserved : goal.loop-taken-preserved
loop-taken-preserved g c =
    let n = c.in-Bytes.count in
    let kept = c.loop-taken.invariant in
    let count : length c.split_at.result.0.now ≡ n = ap length c.split_at.ensures.front ∙ length-take-le n c.read_piece.new.buffer c.in-Bytes.ensures.bytes.0 in
    let fits : c.loop-taken.taken + n ≤ 4611686018427387904 = omega (arith, c.in-Bytes.ensures.room n refl, c.min-room.ensures, c.loop-taken-test.true) in
    record {
      serving = heard g.H.Host.serves c.args.size _ _ (g.S.Source.left c.loop-taken.input) (g.S.Source.left c.read_piece.new.input) c.loop-taken.taken n c.loop-taken.conn c.hear.new.conn _ _ _ _ _
          c.read_piece.new.buffer c.split_at.result.0.now kept.serving c.in-Bytes.ensures.bytes.2 c.split_at.ensures.front count
          (g.S.Source.ends c.args.input.now) (g.S.Source.ends c.read_piece.new.input) (c.in-Bytes.ensures.end ∙ kept.goes_on) c.in_default.ensures.heard;
      free = c.hear.ensures.free;
      fixed = c.hear.ensures.fixed ∙ kept.fixed;
      ready = c.hear.ensures.ready;
      few = fits;
      goes_on = c.in-Bytes.ensures.end ∙ kept.goes_on;
      reads = omega (arith, kept.reads, c.read_piece.ensures.later);
      writes = omega (arith, kept.writes, c.hear.ensures.later);
    }

pub returns-clause-served : goal.returns-clause-served
returns-clause-served g c =
    let full : c.loop-taken.taken ≡ 4611686018427387904 = omega (arith, c.loop-taken.invariant.few, c.loop-taken-test.false) in
    spends g.H.Host.serves c.args.size _ _ _ c.loop-taken.taken c.loop-taken.conn _ _ _ _ _ full c.loop-taken.invariant.goes_on c.loop-taken.invariant.serving
