use Rattle.std.proofs.Common.{refl}
use Rattle.conn_core.specs.Trace.{Park}
use Rattle.conn_loop.proofs.Meeting.{alone_stands, free_held, meets_alone, spent_free, spent_is_held}
use Rattle.conn_loop.proofs.needs.park.Goals as goal

pub park-requires-clause-holds : goal.park-requires-clause-holds
park-requires-clause-holds g c =
    let asks = c.requires.asks in
    let t = c.take_park-ticket in
    spent_is_held g.H.Host.holds _ _ _ asks.state (Park t.result.0 t.result.1 t.result.2) t.result.0 asks.stands (t.ensures.next asks.state asks.stands) refl asks.held

pub returns-clause-meets : goal.returns-clause-meets
returns-clause-meets g c = λ s h.
    let t = c.take_park-ticket in
    let n = Park t.result.0 t.result.1 t.result.2 in
    meets_alone g.H.Host.serves _ _ _ _ s n c.requires.asks.kind (λ e. absurd (cc (c.requires.at.1, e))) c.park.ensures.serves refl (alone_stands t.new.self s n refl (t.ensures.next s h))

pub returns-clause-held : goal.returns-clause-held
returns-clause-held g c =
    let asks = c.requires.asks in
    let t = c.take_park-ticket in
    free_held g.H.Host.holds (g.H.Host.desk c.park.new.self) t.new.self
    (spent_free c.args.conn.now t.new.self asks.state (Park t.result.0 t.result.1 t.result.2) t.result.0 asks.stands (t.ensures.next asks.state asks.stands) refl)
