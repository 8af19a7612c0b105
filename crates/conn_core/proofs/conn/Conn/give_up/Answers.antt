use Rattle.std.proofs.Common.{sym, ◌∙◌, arith}
use Rattle.conn_core.proofs.Served.{gave_up, gave_up_none, least_rank}
use Rattle.conn_core.proofs.Inner.{hears_open, none_is}
use Rattle.conn_core.proofs.conn.Conn.give_up.Goals as goal

pub returns-then-is_held-clause-next : goal.returns-then-is_held-clause-next
returns-then-is_held-clause-next g c = λ s more h. let h2 = rw (← c.self.view_is) at h in (rw c.set.ensures (gave_up _ s more (hears_open _ _ (rw (← c.self.view_is) at c.requires.open)) h2))

pub returns-else-is_held-clause-next : goal.returns-else-is_held-clause-next
returns-else-is_held-clause-next g c = λ s more h. let h2 = rw (← c.self.view_is) at h in (rw c.set-else-is_held.ensures (gave_up_none _ s more (hears_open _ _ (rw (← c.self.view_is) at c.requires.open)) (none_is _ (sym c.is_held.ensures ∙ c.if-is_held.false)) h2))

pub returns-else-is_held-clause-fewer : goal.returns-else-is_held-clause-fewer
returns-else-is_held-clause-fewer g c =
    let least = least_rank c.self.inside.stage (rw (← c.self.view_is) at c.requires.open) in
    rw (c.set-else-is_held.ensures, ← c.self.view_is) (omega (arith, least))
