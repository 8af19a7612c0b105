use Rattle.std.proofs.Common.{◌≡◌, ap, ◌∙◌}
use Rattle.conn_core.specs.declared.need.Closing as closing
use Rattle.conn_core.specs.declared.stage.Stage.TheVariants as at
use Rattle.conn_core.proofs.Inner.{closes}
use Rattle.conn_core.proofs.conn.Conn.closing.Goals as goal

pub returns-in-Close-clause-trace : goal.returns-in-Close-clause-trace
returns-in-Close-clause-trace g c = λ s h how e.
    let same : c.in-Close.closing ≡ how = cc in
    closes _ s how (rw (← c.self.view_is) (c.in-Close.is ∙ ap (λ (x : closing.Closing). at.Close x) same)) h
