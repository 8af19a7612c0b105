use Rattle.conn_core.specs.Stands.{shut}
use Rattle.conn_loop.proofs.Meeting.{free_held}
use Rattle.conn_loop.proofs.Serving.{shut_free}
use Rattle.conn_loop.proofs.Standing.{never_waits, runs_shut}
use Rattle.conn_loop.proofs.connection.hear_end.Goals as goal

pub advance-requires : goal.advance-requires
advance-requires g c =
    let r = c.requires.runs in
    let stands = c.end.ensures.next r.2 r.3.stands in
    record {
      runs = (r.0, r.1, shut c.args.conn.now r.2, runs_shut g.H.Host.serves r.0 _ _ r.2 _ r.1 _ c.end.ensures.deaf r.3 stands);
      held = free_held g.H.Host.holds _ c.end.new.self (shut_free _ _ r.2 r.3.stands stands c.requires.free);
      ready = c.requires.ready;
    }

pub unreachable-requires : goal.unreachable-requires
unreachable-requires g c =
    let r = c.requires.runs in
    let s = r.2 in
    let x = c.in-Waits.ensures.progresses r.0 r.1 (shut c.args.conn.now s) (runs_shut g.H.Host.serves r.0 _ _ s _ r.1 _ c.end.ensures.deaf r.3 (c.end.ensures.next s r.3.stands)) in
    never_waits c.args.conn.now s x.0.state c.requires.listens x.0.same x.1

pub returns-in-Closes-clause-ended : goal.returns-in-Closes-clause-ended
returns-in-Closes-clause-ended g c = λ first old s r.
    c.in-Closes.ensures.progresses first old (shut c.args.conn.now s)
    (runs_shut g.H.Host.serves first _ _ s _ old _ c.end.ensures.deaf r (c.end.ensures.next s r.stands))

pub returns-in-Fails-clause-ended : goal.returns-in-Fails-clause-ended
returns-in-Fails-clause-ended g c = λ first old s r.
    c.in-Fails.ensures.progresses first old (shut c.args.conn.now s)
    (runs_shut g.H.Host.serves first _ _ s _ old _ c.end.ensures.deaf r (c.end.ensures.next s r.stands))
