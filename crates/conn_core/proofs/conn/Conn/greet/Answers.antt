use Rattle.conn_core.proofs.Inner.{take_check, take_hello}
use Rattle.conn_core.proofs.conn.Conn.greet.Goals as goal

pub returns-then-terms-clause-next : goal.returns-then-terms-clause-next
returns-then-terms-clause-next g c = λ f h s p.
    c.write.ensures.next _ c.hello_bytes-bytes.ensures s (take_check c.args.self.now s f c.args.terms.now h.0 h.1 h.2 c.if-terms.true p)

pub returns-else-terms-clause-next : goal.returns-else-terms-clause-next
returns-else-terms-clause-next g c = λ f h s p.
    let next = take_hello c.args.self.now s f c.args.terms.now h.0 h.1 h.2 c.if-terms.false p in
    c.write-else-terms.ensures.next _ c.hello_bytes-bytes.ensures s (rw (← c.self.view_is) at next)
