use Rattle.std.proofs.Common.{◌≡◌, true, refl, sym, subst, rules}
use Rattle.conn_core.specs.declared.need.Need.TheVariants as needs
use Rattle.conn_core.specs.Calls.{kind_at, out_of}
use Rattle.conn_loop.specs.declared.connection.Progress.TheVariants.{Fails}
use Rattle.conn_loop.specs.Met.{asks_host}
use Rattle.conn_loop.specs.Steps.{Acts, Progresses}
use Rattle.conn_loop.proofs.Meeting.{free_held, quiet_free}
use Rattle.conn_loop.proofs.Moving.{acts_of, wrote}
use Rattle.conn_loop.proofs.Serving.{written_free}
use Rattle.conn_loop.proofs.Standing.{closes, cut_off, waits}
use Rattle.conn_loop.proofs.connection.step.Goals as goal

pub returns-in-Bytes-clause-stepped : goal.returns-in-Bytes-clause-stepped
returns-in-Bytes-clause-stepped g c =
    waits g.H.Host.serves c.args.conn.now (g.H.Host.desk c.args.host.now) (g.K.Sink.held c.args.output.now) (c.in-Bytes.ensures.at c.requires.runs.2 c.requires.runs.3.stands)
    (λ s h. c.in-Bytes.ensures.bytes s h refl)

pub returns-in-Close-clause-stepped : goal.returns-in-Close-clause-stepped
returns-in-Close-clause-stepped g c = closes g.H.Host.serves c.args.conn.now c.closing.result (g.H.Host.desk c.args.host.now) (g.K.Sink.held c.args.output.now) c.closing.ensures

pub returns-in-All-clause-stepped : goal.returns-in-All-clause-stepped
returns-in-All-clause-stepped g c =
    subst (λ (desk : g.H.Host.Desk). Acts g.H.Host.serves c.args.conn.now c.write.new.conn (g.H.Host.desk c.args.host.now) desk (g.K.Sink.held c.args.output.now) (g.K.Sink.held c.write.new.output)) (sym c.in-All.ensures.kept)
    (wrote g.H.Host.serves c.args.conn.now c.write.new.conn (g.H.Host.desk c.args.host.now) (g.K.Sink.held c.args.output.now) (g.K.Sink.held c.write.new.output) c.in-All.ensures.writes)

pub returns-in-Failed-clause-stepped : goal.returns-in-Failed-clause-stepped
returns-in-Failed-clause-stepped g c =
    subst (λ (desk : g.H.Host.Desk). Progresses Fails g.H.Host.serves c.args.conn.now c.write.new.conn (g.H.Host.desk c.args.host.now) desk (g.K.Sink.held c.args.output.now) (g.K.Sink.held c.write.new.output)) (sym c.in-Failed.ensures.kept)
    (cut_off g.H.Host.serves c.args.conn.now c.write.new.conn (g.H.Host.desk c.args.host.now) (g.K.Sink.held c.args.output.now) (g.K.Sink.held c.write.new.output)
    (c.in-Write.ensures.at c.requires.runs.2 c.requires.runs.3.stands) c.in-Failed.ensures.writes)

pub returns-in-All-clause-held : goal.returns-in-All-clause-held
returns-in-All-clause-held g c =
    let s = c.requires.runs.2 in
    let stands = c.requires.runs.3.stands in
    let conn = c.args.conn.now in
    free_held g.H.Host.holds _ c.write.new.conn
    (written_free conn c.write.new.conn s (out_of conn.stage) stands (c.in-All.ensures.writes.next s stands) (quiet_free conn needs.Write c.in-Write.ensures.kind refl c.in-Write.ensures.holds))

pub returns-in_default-clause-stepped : goal.returns-in_default-clause-stepped
returns-in_default-clause-stepped g c =
    let asks : asks_host (kind_at c.args.conn.now.stage) ≡ true = search rules in
    acts_of g.H.Host.serves c.args.conn.now c.act.new.conn _ _ (g.K.Sink.held c.args.output.now) asks c.act.ensures.meets
