use Rattle.std.proofs.Common.{◌≡◌, true, false}
use Rattle.conn_core.specs.Stands.{is_open}
use Rattle.conn_core.proofs.Served.{open_at, shut_plain, shut_taken, shut_waiting}
use Rattle.conn_core.proofs.conn.Conn.end.Goals as goal

pub returns-in-Bytes-clause-next : goal.returns-in-Bytes-clause-next
returns-in-Bytes-clause-next g c = λ s h. (let b : c.args.self.now.broken ≡ false = rw (← c.self.view_is) c.if-self.false in let o : is_open c.args.self.now.stage ≡ true = rw (← c.self.view_is) (open_at _ c.in_default.not-Close) in let x = shut_plain c.args.self.now s b o h in rw (← c.self.view_is) (c.settle.ensures.next _ (rw (← c.self.view_is) at x)))

pub returns-in_default-stage-clause-next : goal.returns-in_default-stage-clause-next
returns-in_default-stage-clause-next g c = λ s h. (let b : c.args.self.now.broken ≡ false = rw (← c.self.view_is) c.if-self.false in let o : is_open c.args.self.now.stage ≡ true = rw (← c.self.view_is) (open_at _ c.in_default.not-Close) in let x = shut_waiting c.args.self.now s b o (rw (← c.self.view_is) c.in_default-stage.not-Bytes) h in rw (← c.self.view_is) (rw (← c.self.view_is) at x))

pub returns-in_default-stage-clause-taken : goal.returns-in_default-stage-clause-taken
returns-in_default-stage-clause-taken g c = λ s h. (let x = shut_taken c.args.self.now s h in rw (← c.self.view_is) (rw (← c.self.view_is) at x))
