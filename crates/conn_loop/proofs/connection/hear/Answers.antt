use Rattle.conn_core.specs.Stands.{fed}
use Rattle.conn_loop.proofs.Meeting.{free_held}
use Rattle.conn_loop.proofs.Serving.{fed_free}
use Rattle.conn_loop.proofs.Standing.{runs_fed}
use Rattle.conn_loop.proofs.connection.hear.Goals as goal

pub advance-requires : goal.advance-requires
advance-requires g c =
    let r = c.requires.runs in
    let stands = c.feed.ensures.next r.2 r.3.stands in
    record {
      runs = (r.0, r.1, fed c.args.conn.now c.args.piece.now r.2, runs_fed g.H.Host.serves r.0 _ _ r.2 c.args.piece.now _ r.1 _ c.feed.ensures.deaf r.3 stands);
      held = free_held g.H.Host.holds _ c.feed.new.self (fed_free _ _ r.2 c.args.piece.now r.3.stands stands c.requires.free);
      ready = c.requires.ready;
    }

pub returns-in-Fails-clause-heard : goal.returns-in-Fails-clause-heard
returns-in-Fails-clause-heard g c = λ first old s r.
    c.in-Fails.ensures.progresses first old (fed c.args.conn.now c.args.piece.now s)
    (runs_fed g.H.Host.serves first _ _ s c.args.piece.now _ old _ c.feed.ensures.deaf r (c.feed.ensures.next s r.stands))

pub returns-in-Waits-clause-heard : goal.returns-in-Waits-clause-heard
returns-in-Waits-clause-heard g c = λ first old s r.
    c.in-Waits.ensures.progresses first old (fed c.args.conn.now c.args.piece.now s)
    (runs_fed g.H.Host.serves first _ _ s c.args.piece.now _ old _ c.feed.ensures.deaf r (c.feed.ensures.next s r.stands))

pub returns-in-Closes-clause-heard : goal.returns-in-Closes-clause-heard
returns-in-Closes-clause-heard g c = λ first old s r.
    c.in-Closes.ensures.progresses first old (fed c.args.conn.now c.args.piece.now s)
    (runs_fed g.H.Host.serves first _ _ s c.args.piece.now _ old _ c.feed.ensures.deaf r (c.feed.ensures.next s r.stands))
