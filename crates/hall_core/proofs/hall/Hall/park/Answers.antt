use Rattle.std.proofs.Common.{◌∙◌, sym, subst}
use Rattle.hall_core.specs.State.{runs}
use Rattle.hall_core.specs.Found.{UpTo}
use Rattle.hall_core.proofs.Numbers.{up_to_parked}
use Rattle.hall_core.proofs.hall.Hall.park.Goals as goal

pub invariant_of-self : goal.invariant_of-self
invariant_of-self g c = (
  c.self.invariant.0 ∙ sym c.park.ensures.capacity,
  subst (λ l. UpTo c.self.inside.given l) (sym c.park.ensures.rows) (up_to_parked (runs c.args.ticket.number) c.args.deadline c.args.value c.self.inside.rows.rows c.self.inside.given c.self.invariant.1),
)
