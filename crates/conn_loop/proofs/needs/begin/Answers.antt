use Rattle.std.proofs.Common.{refl}
use Rattle.conn_core.specs.Trace.{Begin}
use Rattle.conn_loop.specs.Answered.{begun_replies}
use Rattle.conn_loop.proofs.Meeting.{begin_stands, kept_held, meets_begin, no_ticket_begun}
use Rattle.conn_loop.proofs.needs.begin.Goals as goal

pub returns-clause-meets : goal.returns-clause-meets
returns-clause-meets g c = λ s h.
    let t = c.take_begin-rules in
    meets_begin g.H.Host.serves _ _ _ _ s _ _ c.begin-answer.result c.requires.asks.kind c.requires.at.1 c.begin-answer.ensures.serves c.give_begun.ensures.broken
    (begin_stands c.give_begun.new.self s t.result.0 t.result.1 c.begin-answer.result (c.give_begun.ensures.next _ (t.ensures.done s h)))

pub returns-clause-held : goal.returns-clause-held
returns-clause-held g c =
    let asks = c.requires.asks in
    let t = c.take_begin-rules in
    let d = c.give_begun.new.self in
    let answer = c.begin-answer.result in
    let stands = begin_stands d asks.state t.result.0 t.result.1 answer (c.give_begun.ensures.next _ (t.ensures.done asks.state asks.stands)) in
    kept_held g.H.Host.holds (g.H.Host.desk c.args.host.now) (g.H.Host.desk c.begin-answer.new.self) c.args.conn.now d asks.state (Begin t.result.0 t.result.1) (begun_replies answer) asks.stands stands
    (no_ticket_begun _ _ _ answer) refl c.begin-answer.ensures.keeps asks.held
