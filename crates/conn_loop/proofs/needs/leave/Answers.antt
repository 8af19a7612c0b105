use Rattle.std.proofs.Common.{refl}
use Rattle.conn_core.specs.Trace.{Leave}
use Rattle.conn_loop.proofs.Meeting.{alone_stands, free_held, meets_alone, spent_free, spent_is_held}
use Rattle.conn_loop.proofs.needs.leave.Goals as goal

pub leave-requires-clause-holds : goal.leave-requires-clause-holds
leave-requires-clause-holds g c =
    let asks = c.requires.asks in
    let t = c.take_leave-ticket in
    spent_is_held g.H.Host.holds _ _ _ asks.state (Leave t.result) t.result asks.stands (t.ensures.next asks.state asks.stands) refl asks.held

pub returns-clause-meets : goal.returns-clause-meets
returns-clause-meets g c = λ s h.
    let t = c.take_leave-ticket in
    meets_alone g.H.Host.serves _ _ _ _ s (Leave t.result) c.requires.asks.kind t.ensures.stays c.leave.ensures.serves refl (alone_stands t.new.self s (Leave t.result) refl (t.ensures.next s h))

pub returns-clause-held : goal.returns-clause-held
returns-clause-held g c =
    let asks = c.requires.asks in
    let t = c.take_leave-ticket in
    free_held g.H.Host.holds (g.H.Host.desk c.leave.new.self) t.new.self
    (spent_free c.args.conn.now t.new.self asks.state (Leave t.result) t.result asks.stands (t.ensures.next asks.state asks.stands) refl)
