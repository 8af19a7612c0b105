use Rattle.std.proofs.Common.{◌∙◌, sym, subst}
use Rattle.hall_core.specs.State.{is_next}
use Rattle.hall_core.specs.Found.{UpTo}
use Rattle.hall_core.proofs.Numbers.{up_to_without}
use Rattle.hall_core.proofs.hall.Hall.expire.Goals as goal

pub invariant_of-self : goal.invariant_of-self
invariant_of-self g c = (
  c.self.invariant.0 ∙ sym c.expire.ensures.capacity,
  subst (λ l. UpTo c.self.inside.given l) (sym c.expire.ensures.rows) (up_to_without (is_next c.args.now c.self.inside.rows.rows) c.self.inside.rows.rows c.self.inside.given c.self.invariant.1),
)
