use Rattle.std.proofs.Common.{◌≡◌, inl, true, false, arith, length-append}
use Rattle.conn_core.specs.Stands.{is_open}
use Rattle.conn_core.proofs.Served.{fed_broken, fed_plain, fed_taken, fed_waiting, open_at, plain_when}
use Rattle.conn_core.proofs.conn.Conn.feed.Goals as goal

pub returns-in-Bytes-clause-next : goal.returns-in-Bytes-clause-next
returns-in-Bytes-clause-next g c = λ s h. (let b : c.args.self.now.broken ≡ false = rw (← c.self.view_is) c.if-self.false in let o : is_open c.args.self.now.stage ≡ true = rw (← c.self.view_is) (open_at _ c.in_default.not-Close) in let x = fed_plain c.args.self.now s c.args.piece.now b o h in rw (← c.self.view_is) (c.settle.ensures.next _ (rw c.in-Ok.ensures.ok (rw (← c.self.view_is) at x))))

pub returns-in_default-stage-clause-next : goal.returns-in_default-stage-clause-next
returns-in_default-stage-clause-next g c = λ s h. (let b : c.args.self.now.broken ≡ false = rw (← c.self.view_is) c.if-self.false in let o : is_open c.args.self.now.stage ≡ true = rw (← c.self.view_is) (open_at _ c.in_default.not-Close) in let x = fed_waiting c.args.self.now s c.args.piece.now b o (rw (← c.self.view_is) c.in_default-stage.not-Bytes) h in rw (← c.self.view_is) (rw c.in-Ok.ensures.ok (rw (← c.self.view_is) at x)))

pub returns-in_default-feed-clause-next : goal.returns-in_default-feed-clause-next
returns-in_default-feed-clause-next g c = λ s h. let b : c.args.self.now.broken ≡ false = rw (← c.self.view_is) c.if-self.false in let o : is_open c.args.self.now.stage ≡ true = rw (← c.self.view_is) (open_at _ c.in_default.not-Close) in let p = plain_when c.args.self.now s b h in (fed_broken c.args.self.now _ s c.args.piece.now b o (c.give_up.ensures.next s c.args.piece.now (rw c.in_default-feed.ensures.err (rw (← c.self.view_is) at p))))

pub returns-in_default-stage-clause-fewer : goal.returns-in_default-stage-clause-fewer
returns-in_default-stage-clause-fewer g c = rw (← c.self.view_is, c.in-Ok.ensures.ok) (omega (arith, length-append c.self.inside.framer.bytes c.args.piece.now))

pub returns-in_default-stage-clause-taken : goal.returns-in_default-stage-clause-taken
returns-in_default-stage-clause-taken g c = λ s h. inl (let x = fed_taken c.args.self.now s c.args.piece.now h in rw (← c.self.view_is) (rw c.in-Ok.ensures.ok (rw (← c.self.view_is) at x)))
