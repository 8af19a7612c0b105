use Rattle.std.proofs.Common.{ap}
use Rattle.conn_core.specs.Stands.{ConnView}
use Rattle.conn_core.proofs.Inner.{fallen}
use Rattle.conn_core.proofs.conn.Conn.outcome.Goals as goal

pub returns-else-add-clause-next : goal.returns-else-add-clause-next
returns-else-add-clause-next g c = λ s p.
    let new = c.add.ensures.err c.if-add.false in
    fallen _ c.add.new.self s (ap (λ (h : ConnView g.row.R.Denot g.row.P.Denot g.row.T.Denot). h.stage) new) (ap (λ (h : ConnView g.row.R.Denot g.row.P.Denot g.row.T.Denot). h.broken) new) (ap (λ (h : ConnView g.row.R.Denot g.row.P.Denot g.row.T.Denot). h.hold) new) (c.add.ensures.none c.if-add.false) p
