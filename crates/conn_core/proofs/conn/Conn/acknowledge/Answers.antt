use Rattle.std.proofs.Common.{◌<◌, ◌≤◌, length, None, refl}
use Rattle.spop_talk.specs.Ack.{ack, ack_body}
use Rattle.conn_core.specs.declared.stage.Stage.TheVariants as at
use Rattle.conn_core.specs.Trace.{limit_of}
use Rattle.conn_core.proofs.Inner.{acked, fallen, too_big}
use Rattle.conn_core.proofs.Steps.{stands}
use Rattle.conn_core.proofs.conn.Conn.acknowledge.Goals as goal

pub returns-in-Ok-clause-next : goal.returns-in-Ok-clause-next
returns-in-Ok-clause-next g c = λ s p.
    let self = c.args.self.now in
    let fits : length (ack_body self.stream self.frame self.actions) ≤ limit_of self.size self.agreed = rw (← c.limit-limit.ensures, ← c.self.view_is) c.in-Ok.ensures.fits in
    let next = stands (record self { stage = at.Write (ack self.stream self.frame self.actions) None }) s c.requires.whole tt (acked self s c.requires.at c.requires.done fits p) in
    rw (c.set.ensures, c.in-Ok.ensures.ok) (rw (← c.self.view_is) at next)

pub returns-in-Err-TooBig-clause-next : goal.returns-in-Err-TooBig-clause-next
returns-in-Err-TooBig-clause-next g c = λ s p.
    let self = c.args.self.now in
    let big : limit_of self.size self.agreed < length (ack_body self.stream self.frame self.actions) = rw (← c.limit-limit.ensures, ← c.self.view_is) (c.in-Err-TooBig.ensures.too_big c.in-Err-TooBig.field-0-0 (rw c.in-Err-TooBig.field-0-is refl)) in
    let left = too_big self s c.requires.at c.requires.done big p in
    c.refuse.ensures.next s (rw (← c.self.view_is) at left)

pub returns-in-Err-NoMemory-clause-next : goal.returns-in-Err-NoMemory-clause-next
returns-in-Err-NoMemory-clause-next g c = λ s p. fallen c.args.self.now _ s (rw c.out_of_memory.ensures.next refl) (rw c.out_of_memory.ensures.next refl) (rw (c.out_of_memory.ensures.next, ← c.self.view_is) refl) (rw (← c.self.view_is) c.out_of_memory.ensures.none) p
